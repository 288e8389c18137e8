-- `rows::sum` meets its contract. The components passed have been added up. Assumes nothing.
use mathlib.Core.Path.{refl}
use native.Mathlib.Omega.{arith}
use Rattle.desk_rows.specs.Rows.{total_next, total_room}
use Rattle.linear.specs.Tuples.{total}
use Rattle.table_rows.specs.Rows.{tuple}
use Rattle.desk_rows.proofs.rows.sum.Goals as goal

pub loop-j-init : goal.loop-j-init
unfolding total
loop-j-init c = refl

pub overflow_add-sum : goal.overflow_add-sum
overflow_add-sum c = omega (arith, c.loop-j.invariant, total_room c.requires.1 c.requires.0 c.loop-j.j c.loop-j-test.true)

pub loop-j-preserved : goal.loop-j-preserved
loop-j-preserved c = omega (arith, c.loop-j.invariant, total_next (tuple c.args.t.now) c.loop-j.j)
