-- Rows that follow from others: a row that is taken once or more, and adds up to 0 with multiples of rows that are 0 at a tuple, is 0 there; and one that adds
-- up to nothing below 0 with them is not below 0 there. Assumes nothing.
use Rattle.std.specs.Prelude.{◌≡◌, ℕ, ◌<◌, ℤ, pos, ◌≤ℤ◌, ◌<ℤ◌}
use Rattle.reformulation_spec.specs.Reformulation.{left_over}

-- ---- rows that follow

-- The row, taken once or more, and multiples of the first n rows of a add up to 0 in each of the first columns;
pub record Exactly (columns n : ℕ) (by row : ℕ → ℤ) (a : ℕ → ℕ → ℤ) : Type 0 where
  pub taken : pos 0 <ℤ by 0
  pub sums : (j : ℕ) → j < columns → left_over n by row a j ≡ pos 0

-- and to nothing below 0.
pub record AtLeast (columns n : ℕ) (by row : ℕ → ℤ) (a : ℕ → ℕ → ℤ) : Type 0 where
  pub taken : pos 0 <ℤ by 0
  pub sums : (j : ℕ) → j < columns → pos 0 ≤ℤ left_over n by row a j
