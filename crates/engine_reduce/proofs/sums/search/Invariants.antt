-- `search` meets its contract: none of the rows passed reduces the sum. Assumes nothing.
use mathlib.Core.Path.{◌≡◌}
use mathlib.Core.Bool.{false}
use Prim.Native.Nat.{◌≤◌, ◌-◌}
use Rattle.definitions.specs.Tables.{at}
use Rattle.engine_reduce.specs.Sums.{integer_at, reducible_by, sum_of}
use Rattle.engine_reduce.proofs.sums.search.Given as goal

abbrev pub invariant-loop-k : goal.invariant-loop-k
invariant-loop-k l = (l.i ≤ l.pair.n) ×
    (reducible_by l.pair.q l.i (at l.pair.table.now l.pair.q) (integer_at l.pair.values.now) (sum_of l.pair.q l.pair.table.now l.pair.upper l.pair.lower)
    l.pair.sum ≡ false)

abbrev pub decreases-loop-k : goal.decreases-loop-k
decreases-loop-k l = l.pair.n - l.i
