-- `rows::read` meets its contract. The components passed have been copied. Assumes nothing.
use mathlib.Core.Path.{refl}
use native.Mathlib.Nat.{le_antisymm}
use native.Mathlib.Omega.{arith}
use lib.ListN.{length-set}
use Rattle.table_rows.proofs.RowsTheorems.{holds_more}
use Rattle.table_rows.proofs.rows.read.Goals as goal

pub loop-j-init : goal.loop-j-init
loop-j-init c = (refl, record { same = λ i l. absurd (omega arith) })

pub loop-j-preserved : goal.loop-j-preserved
loop-j-preserved c =
    (simp length-set c.loop-j.invariant.0, holds_more (omega arith) c.loop-j.invariant.1)

pub returns : goal.returns
returns c = rw (le_antisymm c.loop-j.auto.j-end c.loop-j-test.false) at c.loop-j.invariant.1
