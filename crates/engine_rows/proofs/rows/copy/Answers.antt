-- `rows::copy` meets its contract. The components passed have been written, and those ahead are as they were. Assumes nothing.
use mathlib.Core.Path.{refl}
use native.Mathlib.Nat.{le_antisymm}
use lib.ListN.{length-set}
use Rattle.definitions.specs.Tables.{write_to}
use Rattle.laws.proofs.TableLaws.{write_next}
use Rattle.engine_spec.specs.Beside.{row_at}
use Rattle.engine_rows.specs.Summing.{read_ahead}
use Rattle.engine_rows.proofs.rows.copy.Goals as goal

pub loop-j-init : goal.loop-j-init
unfolding write_to
loop-j-init c = (refl, refl)

pub loop-j-preserved : goal.loop-j-preserved
loop-j-preserved c = (
  rw length-set c.loop-j.invariant.0,
  rw (
    write_next,
    c.loop-j.invariant.1,
    read_ahead (row_at c.args.table.now c.args.from) c.args.table.now c.args.from c.args.to c.loop-j.j c.requires.0,
  ),
)

pub returns : goal.returns
returns c = rw (c.loop-j.invariant.1, le_antisymm c.loop-j.auto.j-end c.loop-j-test.false)
