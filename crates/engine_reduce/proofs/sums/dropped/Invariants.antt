-- `dropped` meets its contract: a yes names a row that reduces the sum. Assumes nothing.
use Prim.Native.Nat.{◌≤◌, ◌-◌}
use Rattle.engine_reduce.proofs.sums.dropped.Given as goal

abbrev pub invariant-loop-k : goal.invariant-loop-k
invariant-loop-k l = (l.from ≤ l.i) × (l.i ≤ l.past) × (l.past ≤ 768)

abbrev pub decreases-loop-k : goal.decreases-loop-k
decreases-loop-k l = l.past - l.i
