-- `rows::below` meets its contract. Assumes nothing.
use Rattle.std.proofs.Common.{rules, refl}
use borrow.Author.Tests.{tests}
use Rattle.definitions.specs.System.{is_at_or_below}
use Rattle.chains.proofs.ChainLaws.{all_in_range}
use Rattle.table_rows.proofs.rows.below.Goals as goal

pub returns : goal.returns
unfolding is_at_or_below
returns c = all_in_range c.all.ensures.ran refl (λ x b q k. search (rules, tests))
