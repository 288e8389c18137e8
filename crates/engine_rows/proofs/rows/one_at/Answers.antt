-- `rows::one_at` meets its contract. Assumes nothing.
use mathlib.Core.Path.{sym}
use Rattle.linear.specs.TupleLaws.{unit_other, unit_same}
use Rattle.engine_rows.proofs.rows.one_at.Goals as goal

pub returns-then-j-i : goal.returns-then-j-i
returns-then-j-i c = rw c.if-j-i.true (sym (unit_same c.args.i))

pub returns-else-j-i : goal.returns-else-j-i
returns-else-j-i c = sym (unit_other c.args.i c.args.j c.if-j-i.false)
