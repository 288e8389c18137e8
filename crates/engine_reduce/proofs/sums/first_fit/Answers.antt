-- `first_fit` meets its contract: none of the words passed fits. Assumes nothing.
use native.Mathlib.Nat.{le_antisymm}
use Rattle.engine_reduce.specs.Fits.{unfit_more, unfit_none}
use Rattle.engine_reduce.proofs.sums.first_fit.Goals as goal

pub loop-i-init : goal.loop-i-init
loop-i-init c = unfit_none _ _ _

pub fits-requires : goal.fits-requires
fits-requires c = c.requires.0.each c.loop-i.i c.loop-i-test.true

pub loop-i-preserved : goal.loop-i-preserved
loop-i-preserved c = unfit_more c.loop-i.invariant c.fits.ensures c.if-fits.false

pub returns : goal.returns
returns c = rw (le_antisymm (c.loop-i.auto.i-end c.requires.1) c.loop-i-test.false) at c.loop-i.invariant
