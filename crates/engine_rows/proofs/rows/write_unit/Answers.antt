-- `rows::write_unit` meets its contract. Assumes nothing.
use Rattle.std.proofs.Common.{rules}
use Rattle.linear.specs.Tuples.{unit}
use Rattle.engine_rows.proofs.rows.write_unit.Goals as goal

pub returns : goal.returns
returns c = c.write_row.ensures (unit c.args.i) (λ j y l p. search rules)
