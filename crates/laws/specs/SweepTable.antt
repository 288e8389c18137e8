-- What stands in a table during a sweep and after it, and that the test may be made in place, on the table as it is written over.
-- Assumes nothing.
use Rattle.std.specs.Prelude.{Bool, ◌&&◌, List, ℕ, ◌*◌, ◌≤◌, ◌<◌, T, length}
use Rattle.std.proofs.Math.Bool.{not}
use Rattle.std.proofs.Math.Dec.{ltb}
use Rattle.linear.specs.Tests.{any_to}
use Rattle.linear.specs.Tuples.{AtOrBelow, Below}
use Rattle.definitions.specs.System.{is_at_or_below}
use Rattle.definitions.specs.Tables.{at}
use Rattle.laws.specs.Sweep.{keeps, swept_to}

-- ---- the test in place

-- Row i stays just if no row that stays stands earlier at or below it, and no later row lies below it: a row that went is not asked.
pub record StaysInPlace (q n : ℕ) (row : ℕ → ℕ → ℕ) (i : ℕ) : Type 0 where
  pub earlier : (k : ℕ) → k < i → T (keeps q n row k) → ¬ (AtOrBelow q (row k) (row i))
  pub later : (k : ℕ) → i < k → k < n → ¬ (Below q (row k) (row i))

-- The test as a loop makes it: the table after rows 0 .. i - 1 have been gone through holds c rows that stay, and the rows from i on as they were.
-- Row i stays just if none of the c rows is at or below it and no later row lies below it.
unfoldable pub stays_here : ℕ → ℕ → (ℕ → ℕ → ℕ) → ℕ → ℕ → Bool
stays_here q n now c i =
    not (any_to c (λ m. is_at_or_below q (now m) (now i)))
    && not (any_to n (λ k. ltb i k && (is_at_or_below q (now k) (now i) && not (is_at_or_below q (now i) (now k)))))

module _ (q n : ℕ) (table : List ℕ) (long : n * q ≤ length table) (i : ℕ) (l : i < n) where
  abbrev pub stay : ℕ → Bool
  stay = keeps q n (at table q)

  abbrev pub now : ℕ → ℕ → ℕ
  now = at (swept_to i q table stay) q
