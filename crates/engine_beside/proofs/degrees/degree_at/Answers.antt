-- `degrees::degree_at` meets its contract. The sum so far is that of the places passed, within the limit. Assumes nothing.
use mathlib.Core.Path.{refl}
use native.Mathlib.Omega.{arith}
use Rattle.linear.proofs.TupleLaws.{total_more}
use Rattle.linear.specs.Tuples.{total}
use Rattle.engine_spec.specs.Beside.{row_at}
use Rattle.engine_beside.specs.Degrees.{total_room}
use Rattle.engine_beside.proofs.degrees.degree_at.Goals as goal

pub loop-j-init : goal.loop-j-init
unfolding total
loop-j-init c = refl

pub overflow_add-sum-in-loop-j : goal.overflow_add-sum-in-loop-j
overflow_add-sum-in-loop-j c =
    let row = row_at c.args.table.now c.args.base in
    omega (arith, total_room c.args.q row c.loop-j.j c.requires.0 c.requires.1.small c.loop-j-test.true c.loop-j.invariant)

pub loop-j-preserved : goal.loop-j-preserved
loop-j-preserved c = total_more (row_at c.args.table.now c.args.base) c.loop-j.j c.loop-j.invariant
