-- Document 02, Job 2, "Newest rows first": "4,096 rows, only the last at or below the tuple, in at most a tenth of the time it took before." Time is measured
-- (bench/run); it goes by the rows that are looked at until one is found, and these are counted here, in either order. Assumes nothing.
use Rattle.std.specs.Prelude.{◌≡◌, Bool, true, false, ℕ, zero, suc, ◌+◌}
use Rattle.std.proofs.Math.Option.{Option, some, none}
use Rattle.linear.specs.Tests.{any_to}
use Rattle.definitions.specs.System.{is_at_or_below}

-- nothing more is looked at once something is found
abbrev pub unless_found : Bool → ℕ → ℕ
unless_found true more = 0
unless_found false more = more

-- "Take the listed rows last to first.": how many of the places 0 .. n - 1 are looked at until f holds
unfoldable pub looks_down : ℕ → (ℕ → Bool) → ℕ
looks_down zero f = 0
looks_down (suc n) f = suc (unless_found (f n) (looks_down n f))

-- the same first to last: a place is looked at where f holds at none before it
unfoldable pub looks_up : ℕ → (ℕ → Bool) → ℕ
looks_up zero f = 0
looks_up (suc n) f = looks_up n f + unless_found (any_to n f) 1

-- what the answer of the check says of the rows looked at: all down to the highest place, and all there are where there is none
abbrev pub Looked : ℕ → ℕ → Option ℕ → Type 0
Looked n looks none = looks ≡ n
Looked n looks (some k) = looks + k ≡ n + 1

-- the check on a list goes by it: row i is at or below x
abbrev pub hit : ℕ → (ℕ → ℕ → ℕ) → (ℕ → ℕ) → ℕ → Bool
hit w row x i = is_at_or_below w (row i) x
