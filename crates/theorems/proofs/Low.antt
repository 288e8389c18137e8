-- Theorems about what specs/Low.antt defines. Assumes nothing.
use Rattle.std.specs.Prelude.{◌≡◌, ℕ, ◌+◌, ◌≤◌, ◌<◌}
use Rattle.std.proofs.Common.{◌∙◌}
use Rattle.linear.specs.Tuples.{total}
use Rattle.definitions.specs.Bound.{depth}
use Rattle.definitions.specs.Input.{Input, system_of}
use Rattle.definitions.specs.Tables.{State, at}
use Rattle.theorems.specs.Run.{Run, aim_of}
use Rattle.theorems.specs.Low.{as_many, by_units, low, sum_at_most}

-- (document 02, Job 6) "the number shown is never above D", nor is the sum of a tuple in the stack table
module _ (i : Input) (one : i.p ≡ 1) {s : State} (r : Run i (aim_of i.extra) s) where
  pub run_deep : s.run.deepest ≤ depth (system_of i)
  run_deep = (low i one r).deep

  pub run_sums : (l : ℕ) → l < s.run.height → total (at s.stack ((system_of i).q + 1) l) (system_of i).q ≤ depth (system_of i)
  run_sums = sum_at_most (system_of i) (aim_of i.extra) (by_units i.extra) (as_many i ∙ one) s (low i one r)
