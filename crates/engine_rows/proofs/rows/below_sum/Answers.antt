-- `rows::below_sum` meets its contract. Assumes nothing.
use Rattle.std.proofs.Common.{rules, tests, leb, ◌+◌}
use Rattle.definitions.specs.System.{is_at_or_below}
use Rattle.engine_spec.specs.Beside.{row_at}
use Rattle.engine_rows.proofs.rows.below_sum.Goals as goal

pub at_every-requires : goal.at_every-requires
at_every-requires c = λ j l. search (rules, c.requires.0.small j l, c.requires.1.small j l)

pub returns : goal.returns
unfolding is_at_or_below
returns c =
    let t = c.args.table.now in
    c.at_every.ensures (λ j. leb (row_at t c.args.i j) (row_at t c.args.x j + row_at t c.args.y j)) (λ j b l p. search (rules, tests))
