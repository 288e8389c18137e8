-- `checks::components::above_limit` meets its contract. Assumes nothing.
use mathlib.Core.Path.{◌∙◌}
use borrow.Author.Rules.{rules}
use borrow.Author.Tests.{tests}
use lib.Dec.{ltb}
use Rattle.chains.proofs.ChainLaws.{any_in_slice, any_by_places}
use Rattle.checks.proofs.components.above_limit.Goals as goal

pub returns : goal.returns
returns c =
    any_in_slice {xs = c.args.t.now} (ltb c.args.limit) c.any.ensures.ran (cc) (λ x b q k. search (rules, tests))
    ∙ any_by_places (ltb c.args.limit) 0 c.args.t.now
