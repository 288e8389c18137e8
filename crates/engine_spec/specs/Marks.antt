-- Marks: a number kept with a row z that answers for many pairs (z, w) at once that their sum is reduced. Where z came about as the sum of two rows s and t
-- and its value has the sign of s, t lies below z; and with any row w of the other sign whose value is no smaller than that of s, t reduces z + w.
-- Assumes nothing.
use Rattle.std.specs.Prelude.{◌≡◌, ◌⊎◌, ℕ, ◌+◌, ◌≤◌, ◌<◌, ℤ}
use Rattle.linear.specs.Differences.{down, up}
use Rattle.linear.specs.Systems.{value}
use Rattle.linear.specs.Tuples.{AtOrBelow}
use Rattle.engine_spec.specs.ReductionLaws.{Against}

-- the absolute value
abbrev pub size : ℤ → ℕ
size x = up x + down x

abbrev pub Opposed : ℤ → ℤ → Type 0
Opposed x y = Against x y ⊎ Against y x

-- a row of the other sign lies at or below z, and the two sizes add up to at most `mark`
pub record Marked (q : ℕ) (c : ℕ → ℤ) (n : ℕ) (row : ℕ → ℕ → ℕ) (z : ℕ → ℕ) (mark : ℕ) : Type 0 where
  pub by : ℕ
  pub low : by < n
  pub under : AtOrBelow q (row by) z
  pub signs : Opposed (value c q z) (value c q (row by))
  pub sizes : size (value c q z) + size (value c q (row by)) ≤ mark

-- ---- where a mark comes from

module _ (q : ℕ) (c : ℕ → ℤ) (n : ℕ) (row : ℕ → ℕ → ℕ) (h k : ℕ) (hn : h < n) (kn : k < n) (pair : Against (value c q (row h)) (value c q (row k)))
    (z : ℕ → ℕ) (is : (j : ℕ) → j < q → z j ≡ row h j + row k j) where
  abbrev pub x : ℤ
  x = value c q (row h)

  abbrev pub y : ℤ
  y = value c q (row k)

  abbrev pub v : ℤ
  v = value c q z
