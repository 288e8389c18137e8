-- What a list holds: rows of a set only, or exactly its tuples; and what a user reads of it. Assumes nothing.
use Rattle.std.specs.Prelude.{◌≡◌, List, ℕ, suc, ◌≤◌, ◌<◌, get_or, length}
use Rattle.linear.specs.Tuples.{Same}
use Rattle.definitions.specs.Reader.{row, shown}
use Rattle.definitions.specs.Tables.{at, capacity}

-- the table has n rows of q numbers or more; each of the first n is in W, and no two are the same
pub record Only (q : ℕ) (W : (ℕ → ℕ) → Type 0) (table : List ℕ) (n : ℕ) : Type 0 where
  pub room : n ≤ capacity q table
  pub only : (i : ℕ) → i < n → W (at table q i)
  pub once : (i j : ℕ) → i < j → j < n → ¬ (Same q (at table q i) (at table q j))

-- and each tuple of W is one of them
pub record Exactly (q : ℕ) (W : (ℕ → ℕ) → Type 0) (table : List ℕ) (n : ℕ) : Type 0 where
  pub part : Only q W table n
  pub all : (t : ℕ → ℕ) → W t → (i : ℕ) × (i < n) × Same q (at table q i) t

-- what the reader shows of row i, from 0: all of its numbers, and no more
pub record Reads (q : ℕ) (table : List ℕ) (n i : ℕ) : Type 0 where
  pub part : List ℕ
  pub is_shown : shown q table n (suc i) ≡ row part
  pub whole : length part ≡ q
  pub numbers : (j : ℕ) → j < q → get_or part j 0 ≡ at table q i j

-- what is handed out is row i, from 0, of a table: all of its numbers, and no more
pub record IsRow (q : ℕ) (table : List ℕ) (i : ℕ) (part : List ℕ) : Type 0 where
  pub whole : length part ≡ q
  pub numbers : (j : ℕ) → j < q → get_or part j 0 ≡ at table q i j
