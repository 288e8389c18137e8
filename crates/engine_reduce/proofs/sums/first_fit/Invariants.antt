-- `first_fit` meets its contract: none of the words passed fits. Assumes nothing.
use Rattle.engine_reduce.specs.Fits.{Unfit}
use Rattle.engine_reduce.proofs.sums.first_fit.Given as goal

abbrev pub invariant-loop-i : goal.invariant-loop-i
invariant-loop-i l = Unfit l.words l.word l.from l.i
