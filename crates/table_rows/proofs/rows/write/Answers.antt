-- `rows::write` meets its contract. The components passed have been written. Assumes nothing.
use mathlib.Core.Path.{refl}
use native.Mathlib.Nat.{le_antisymm}
use lib.ListN.{length-set}
use Rattle.definitions.specs.Tables.{write_to}
use Rattle.laws.proofs.TableLaws.{write_next}
use Rattle.table_rows.proofs.rows.write.Goals as goal

pub loop-j-init : goal.loop-j-init
unfolding write_to
loop-j-init c = (refl, refl)

pub loop-j-preserved : goal.loop-j-preserved
loop-j-preserved c = (rw length-set c.loop-j.invariant.0, rw (write_next, c.loop-j.invariant.1))

pub returns : goal.returns
returns c = rw (c.loop-j.invariant.1, le_antisymm c.loop-j.auto.j-end c.loop-j-test.false)
