-- Tuples as code holds them, their limits, and where the rows of a list lie. Assumes nothing.
use Rattle.std.specs.Prelude.{◌≡◌, List, ℕ, ◌+◌, ◌≤◌, ◌<◌, get_or}
use Rattle.definitions.specs.System.{most_component}

-- the tuple that an array or a slice holds
abbrev pub tuple : List ℕ → ℕ → ℕ
tuple t j = get_or t j 0

-- t holds the tuple of w numbers that stands in a table from place base
pub record Holds (w : ℕ) (t table : List ℕ) (base : ℕ) : Type 0 where
  pub same : (j : ℕ) → j < w → get_or t j 0 ≡ get_or table (base + j) 0

-- ---- limits

-- no component of x is above that of any walk, and none above the limit of this one
pub record Limited (q : ℕ) (x : ℕ → ℕ) : Type 0 where
  pub at_most : (j : ℕ) → j < q → x j ≤ most_component

pub record Within (limit q : ℕ) (x : ℕ → ℕ) : Type 0 where
  pub at_most : (j : ℕ) → j < q → x j ≤ limit

-- the numbers of a tuple from a place on: the part that a row of a list is compared with
abbrev pub part : ℕ → (ℕ → ℕ) → ℕ → ℕ
part from x j = x (from + j)
