-- `next_fit` meets its contract: of the words passed, eight at a time, none fits. Assumes nothing.
use Prim.Native.Nat.{◌+◌, ◌*◌}
use Rattle.engine_reduce.specs.Fits.{Unfit}
use Rattle.engine_reduce.proofs.sums.next_fit.Given as goal

abbrev pub invariant-loop-e : goal.invariant-loop-e
invariant-loop-e l = Unfit l.words l.word l.from (l.from + 8 * l.e)
