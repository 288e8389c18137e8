-- Document 02, Job 6: the number shown is the greatest sum of components among the tuples of the steps taken, in every kind of run. Assumes nothing.
use Rattle.std.specs.Prelude.{List}
use Prim.Native.Nat.{ℕ}
use Rattle.linear.specs.Tuples.{total}
use Rattle.definitions.specs.Input.{Input, above_system, system_of}
use Rattle.definitions.specs.Step.{top}
use Rattle.definitions.specs.Tables.{State, by_walk}

-- the sum of the tuple that the next step takes off; where the run has right sides, "sums of components count" the extra unknown
abbrev pub top_sum : Input → State → ℕ
top_sum i s = total (top (system_of i) s) (system_of i).q

-- ---- runs from a lower bound: "the floor's own components count, the plain run before it does not"

abbrev pub top_sum_from : List ℕ → Input → State → ℕ
top_sum_from lower i s = by_walk s.run.kind 0 (total (top (above_system lower i) s) i.q)
