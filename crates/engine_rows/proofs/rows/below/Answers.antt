-- `rows::below` meets its contract. Assumes nothing.
use Rattle.std.proofs.Common.{rules, tests, leb}
use Rattle.definitions.specs.System.{is_at_or_below}
use Rattle.engine_spec.specs.Beside.{row_at}
use Rattle.engine_rows.proofs.rows.below.Goals as goal

pub returns : goal.returns
unfolding is_at_or_below
returns c =
    c.at_every.ensures (λ j. leb (row_at c.args.table.now c.args.x j) (row_at c.args.table.now c.args.y j)) (λ j b l p. search (rules, tests))
