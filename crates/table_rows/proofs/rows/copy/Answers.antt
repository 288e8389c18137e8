-- `rows::copy` meets its contract. The numbers passed have been written, and those ahead are as they were. Assumes nothing.
use Rattle.table_rows.proofs.Keeping.{copied_more}
use Rattle.definitions.specs.Tables.{write_to}
use lib.ListN.{length-set}
use native.Mathlib.Nat.{le_antisymm}
use mathlib.Core.Path.{refl}
use Rattle.table_rows.proofs.rows.copy.Goals as goal

pub loop-j-init : goal.loop-j-init
unfolding write_to
loop-j-init c = (refl, refl)

pub loop-j-preserved : goal.loop-j-preserved
loop-j-preserved c = (
  rw length-set c.loop-j.invariant.0,
  copied_more c.args.table.now c.args.from c.args.to c.loop-j.j c.requires.0 c.loop-j.invariant.1 refl,
)

pub returns : goal.returns
returns c = rw (c.loop-j.invariant.1, le_antisymm c.loop-j.auto.j-end c.loop-j-test.false)
