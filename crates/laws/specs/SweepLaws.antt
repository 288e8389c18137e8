-- What a sweep keeps: the first occurrences of the rows that have no other row below them.
-- Assumes nothing.
use Rattle.std.specs.Prelude.{◌≡◌, T}
use Prim.Native.Nat.{ℕ, ◌<◌}
use Rattle.linear.specs.Tests.{count_to}
use Rattle.linear.specs.Tuples.{Below, Same}
use Rattle.laws.specs.Sweep.{keeps}

-- "each row that lies above another row or repeats an earlier one" is removed: a row stays if no row is below it and no earlier one is the same
pub record Stays (q n : ℕ) (row : ℕ → ℕ → ℕ) (i : ℕ) : Type 0 where
  pub least : (k : ℕ) → k < n → ¬ (Below q (row k) (row i))
  pub first : (k : ℕ) → k < i → ¬ (Same q (row k) (row i))

-- ---- the rows that stay, one behind the other

-- n' rows are those of n rows that stay, in their order
pub record Swept (q n : ℕ) (row : ℕ → ℕ → ℕ) (n' : ℕ) (row' : ℕ → ℕ → ℕ) : Type 0 where
  pub count : n' ≡ count_to n (keeps q n row)
  pub rows : (i : ℕ) → i < n → T (keeps q n row i) → Same q (row' (count_to i (keeps q n row))) (row i)

module _ {q n : ℕ} {row : ℕ → ℕ → ℕ} {n' : ℕ} {row' : ℕ → ℕ → ℕ} (s : Swept q n row n' row') where
  -- each row left is one that stays, and those before it in the list before it
  pub record From (m : ℕ) : Type 0 where
    pub i : ℕ
    pub low : i < n
    pub stays : T (keeps q n row i)
    pub place : count_to i (keeps q n row) ≡ m
    pub same : Same q (row' m) (row i)
