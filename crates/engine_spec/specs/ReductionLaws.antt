-- What the tests of a sum say, what an appended row leaves in the table, and sums of solutions. Assumes nothing.
use Rattle.std.specs.Prelude.{◌≡◌, List, ℕ, ◌*◌, ◌≤◌, ◌<◌, ℤ, get_or, length}
use Rattle.linear.specs.Differences.{down, up}

-- one value is above 0 and the other below
pub record Against (x y : ℤ) : Type 0 where
  pub above : 0 < up x
  pub below : 0 < down y

-- another table that holds the same n rows
pub record SameRows (q n : ℕ) (old table : List ℕ) : Type 0 where
  pub long : n * q ≤ length table
  pub same : (i : ℕ) → i < n * q → get_or table i 0 ≡ get_or old i 0
