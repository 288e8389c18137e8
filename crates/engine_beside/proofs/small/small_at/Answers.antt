-- `small::small_at` meets its contract. Assumes nothing.
use Rattle.std.proofs.Common.{rules, tests, leb}
use Rattle.definitions.specs.System.{most_component}
use Rattle.engine_spec.specs.Beside.{row_at}
use Rattle.engine_spec.specs.Reduction.{is_small}
use Rattle.engine_beside.proofs.small.small_at.Goals as goal

pub returns : goal.returns
unfolding is_small
returns c = c.at_every.ensures (λ j. leb (row_at c.args.table.now c.args.base j) most_component) (λ j b l p. search (rules, tests))
