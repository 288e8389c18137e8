-- `some_fit` meets its contract: none of the words passed fits, unless it says so. Assumes nothing.
use Prim.Native.Nat.{◌+◌}
use Rattle.engine_reduce.specs.Fits.{UnfitIf}
use Rattle.engine_reduce.proofs.sums.some_fit.Given as goal

abbrev pub invariant-loop-j : goal.invariant-loop-j
invariant-loop-j l = UnfitIf l.any l.words l.word l.from (l.from + l.j)
