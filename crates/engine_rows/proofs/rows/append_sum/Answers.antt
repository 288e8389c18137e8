-- `rows::append_sum` meets its contract. The components passed have been written, and the two rows, which stand before them, are as they were. Assumes nothing.
use mathlib.Core.Path.{refl}
use native.Mathlib.Nat.{le_antisymm}
use lib.ListN.{length-set}
use Rattle.definitions.specs.Tables.{write_to}
use Rattle.laws.proofs.TableLaws.{write_next}
use native.Mathlib.Omega.{arith}
use Rattle.engine_spec.specs.Beside.{row_at}
use Rattle.engine_spec.specs.Signs.{plus}
use Rattle.engine_rows.specs.Summing.{read_before}
use Rattle.engine_rows.proofs.rows.append_sum.Goals as goal

pub loop-j-init : goal.loop-j-init
unfolding write_to
loop-j-init c = (refl, refl)

pub overflow_add-table-in-loop-j-2 : goal.overflow_add-table-in-loop-j-2
overflow_add-table-in-loop-j-2 c =
    let j = c.loop-j.j in
    let l = c.loop-j-test.true in
    let x = row_at c.args.table.now c.args.x in
    let y = row_at c.args.table.now c.args.y in
    rw (
      c.loop-j.invariant.1,
      read_before (plus x y) c.args.table.now c.args.x c.args.to j c.args.q c.requires.2 l,
      read_before (plus x y) c.args.table.now c.args.y c.args.to j c.args.q c.requires.3 l,
    )
    (omega (arith, c.requires.0.small j l, c.requires.1.small j l))

pub loop-j-preserved : goal.loop-j-preserved
loop-j-preserved c =
    let j = c.loop-j.j in
    let l = c.loop-j-test.true in
    let x = row_at c.args.table.now c.args.x in
    let y = row_at c.args.table.now c.args.y in (
      rw length-set c.loop-j.invariant.0,
      rw (
        write_next,
        c.loop-j.invariant.1,
        read_before (plus x y) c.args.table.now c.args.x c.args.to j c.args.q c.requires.2 l,
        read_before (plus x y) c.args.table.now c.args.y c.args.to j c.args.q c.requires.3 l,
      ),
    )

pub returns : goal.returns
returns c = rw (c.loop-j.invariant.1, le_antisymm c.loop-j.auto.j-end c.loop-j-test.false)
