-- `some_fit` meets its contract: none of the words passed fits, unless it says so. Assumes nothing.
use mathlib.Core.Logic.{inl, inr}
use Prim.Native.Nat.{◌+◌}
use native.Mathlib.Nat.{le_antisymm}
use native.Mathlib.Omega.{arith}
use Rattle.engine_reduce.specs.Fits.{if_more, if_none}
use Rattle.engine_reduce.proofs.sums.some_fit.Goals as goal
use Rattle.engine_reduce.proofs.sums.some_fit.Goals.{then-fits, else-fits}

pub loop-j-init : goal.loop-j-init
loop-j-init c = if_none _ _ _ _

pub fits-requires : goal.fits-requires
fits-requires c =
    c.requires.0.each (c.args.from + c.loop-j.j) (omega (arith, c.loop-j-test.true, c.requires.1))

pub loop-j-preserved : goal.loop-j-preserved
loop-j-preserved c =
    if_more c.loop-j.j c.loop-j.invariant c.fits.ensures
    (elim c.if-fits.branch [ then-fits h ↦ inl (h.if-fits.true, h.any-is) | else-fits h ↦ inr (h.if-fits.false, h.any-is) ])

pub returns : goal.returns
returns c = rw (le_antisymm c.loop-j.auto.j-end c.loop-j-test.false) at c.loop-j.invariant
