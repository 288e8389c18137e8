-- `rows::write_units` meets its contract. The rows passed have been written. Assumes nothing.
use mathlib.Core.Path.{refl, ap, ◌∙◌}
use Prim.Native.Nat.{◌+◌}
use native.Mathlib.Nat.{le_antisymm}
use native.Mathlib.Omega.{arith}
use lib.ListN.{length}
use Rattle.linear.specs.Tuples.{unit}
use Rattle.laws.proofs.TableLaws.{row_fits}
use Rattle.laws.specs.Pack.{pack_to}
use Rattle.laws.proofs.Pack.{pack_length}
use Rattle.engine_rows.specs.Packing.{all_more, always}
use Rattle.engine_rows.proofs.rows.write_units.Goals as goal

pub loop-i-init : goal.loop-i-init
unfolding pack_to
loop-i-init c = (refl, refl)

pub overflow_mul-i : goal.overflow_mul-i
overflow_mul-i c =
    omega (arith, c.requires, row_fits c.args.q c.loop-i.i c.args.q c.loop-i-test.true)

pub write_unit-requires : goal.write_unit-requires
write_unit-requires c =
    omega (arith, c.requires, c.loop-i.invariant.0, row_fits c.args.q c.loop-i.i c.args.q c.loop-i-test.true)

pub loop-i-preserved : goal.loop-i-preserved
loop-i-preserved c =
    let s = c.args in
    let e = all_more s.q c.loop-i.i s.table.now unit c.loop-i.invariant.1 c.write_unit.ensures in
    (ap length e ∙ pack_length s.q s.table.now 0 always unit (c.loop-i.i + 1), e)

pub returns : goal.returns
returns c = rw (c.loop-i.invariant.1, le_antisymm c.loop-i.auto.i-end c.loop-i-test.false)
