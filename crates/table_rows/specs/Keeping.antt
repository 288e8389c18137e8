-- What the contracts on the rows kept cite, and one turn of their loops. Assumes nothing.
use Rattle.std.specs.Prelude.{◌≡◌, List, Bool, not, ◌&&◌, ℕ, ltb}
use Rattle.linear.specs.Tests.{count_to}
use Rattle.definitions.specs.System.{is_at_or_below}
use Rattle.laws.specs.Sweep.{swept_to}

-- of the first n rows, those that `stay` picks stand one behind the other, and there are `count` of them
pub record Kept (q n : ℕ) (stay : ℕ → Bool) (table₀ table : List ℕ) (count : ℕ) : Type 0 where
  pub rows : table ≡ swept_to n q table₀ stay
  pub counted : count ≡ count_to n stay

-- ---- the test of a sweep

-- a later row lies below row i
abbrev pub spoils_later : ℕ → (ℕ → ℕ → ℕ) → ℕ → ℕ → Bool
spoils_later q now i k = ltb i k && (is_at_or_below q (now k) (now i) && not (is_at_or_below q (now i) (now k)))

abbrev pub spoils_earlier : ℕ → (ℕ → ℕ → ℕ) → ℕ → ℕ → Bool
spoils_earlier q now i m = is_at_or_below q (now m) (now i)
