-- `rows::write_row` meets its contract. The components passed have been written. Assumes nothing.
use Rattle.std.proofs.Common.{refl, length-set}
use native.Mathlib.Nat.{le_antisymm}
use Rattle.definitions.specs.Tables.{write_to}
use Rattle.laws.proofs.TableLaws.{write_next}
use Rattle.engine_rows.proofs.rows.write_row.Goals as goal

pub loop-j-init : goal.loop-j-init
unfolding write_to
loop-j-init g c = (refl, λ x h. refl)

pub loop-j-preserved : goal.loop-j-preserved
loop-j-preserved g c = (
  rw length-set c.loop-j.invariant.0,
  λ x h. rw (write_next, c.loop-j.invariant.1 x h, h c.loop-j.j c.component.result c.loop-j-test.true c.component.ensures),
)

pub returns : goal.returns
returns g c = λ x h. rw (c.loop-j.invariant.1 x h, le_antisymm c.loop-j.auto.j-end c.loop-j-test.false)
