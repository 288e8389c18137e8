-- `walk::extended::write` meets its contract. Assumes nothing.
use Prim.Native.Nat.{◌+◌}
use native.Mathlib.Nat.{le_antisymm}
use native.Mathlib.Omega.{arith}
use Rattle.walk.specs.ExtendLaws.{extends_next, extends_none, sided_less}
use Rattle.walk.proofs.extended.write.Goals as goal

pub loop-i-init : goal.loop-i-init
loop-i-init c = extends_none _ _ _ _ c.requires.1

pub row-requires : goal.row-requires
row-requires c =
    (sided_less c.requires.0 (c.loop-i.i + 1) (omega (arith, c.loop-i-test.true)), c.loop-i.invariant.size)

pub loop-i-preserved : goal.loop-i-preserved
loop-i-preserved c = extends_next c.loop-i.invariant c.row.ensures

pub returns : goal.returns
returns c = rw (le_antisymm c.loop-i.auto.i-end c.loop-i-test.false) at c.loop-i.invariant
