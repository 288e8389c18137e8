-- What a reader answers. Assumes nothing.
use Rattle.std.specs.Prelude.{ℕ, ◌-◌, ◌<◌, List, ℤ, Option, Some, None, length, drop}
use Rattle.equation_read.specs.declared.sums.After.{After}
use Rattle.equation_read.specs.Totals.{Collected, collected, stopped, Small}

abbrev pub collected_by : List ℕ → Option After → List ℤ → Collected
collected_by t (Some a) ts = collected ts a.exceeds (drop a.next t)
collected_by t None ts = stopped

-- something was read from place i on, up to the place r, and there is room for what follows
pub record Advanced (t : List ℕ) (i r : ℕ) (ts : List ℤ) : Type 0 where
  pub less : length t - r < length t - i
  pub room : Small ts (length t - r)

abbrev pub Passed : List ℕ → ℕ → Option After → List ℤ → Type 0
Passed t i (Some a) ts = Advanced t i a.next ts
Passed t i None ts = Unit {0}
