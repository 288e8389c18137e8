-- What code keeps beside the rows of a stage, each in a table of its own: their values, degrees, words and marks. The stage itself knows none of them; they
-- answer its tests sooner. Assumes nothing.
use Rattle.std.specs.Prelude.{◌≡◌, cond, List, ℕ, ◌+◌, ◌*◌, ◌≤◌, ◌<◌, ltb, ℤ, pos, nat_abs, length, get_or}
use Rattle.linear.specs.Systems.{value}
use Rattle.linear.specs.Tuples.{total}
use Rattle.definitions.specs.System.{most_component}
use Rattle.definitions.specs.Tables.{at}
use Rattle.engine_spec.specs.Marks.{Marked}
use Rattle.engine_spec.specs.Words.{word}

-- The engine's own limits: equations and unknowns, and the coefficients that row operations may lead to.
abbrev pub most_rows : ℕ
most_rows = 32

abbrev pub most_columns : ℕ
most_columns = 32

abbrev pub coefficient_limit : ℕ
coefficient_limit = 1000000

-- ---- rows and equations as code holds them

-- the coefficients from place `from` on, and the row of a table from place `base` on
abbrev pub equation_at : List ℤ → ℕ → ℕ → ℤ
equation_at coefs from j = get_or coefs (from + j) (pos 0)

abbrev pub row_at : List ℕ → ℕ → ℕ → ℕ
row_at table base j = get_or table (base + j) 0

-- one row within the component limit
pub record SmallRow (q : ℕ) (table : List ℕ) (base : ℕ) : Type 0 where
  pub whole : base + q ≤ length table
  pub small : (j : ℕ) → j < q → row_at table base j ≤ most_component

-- n rows within the component limit
pub record SmallTable (q n : ℕ) (table : List ℕ) : Type 0 where
  pub few : q ≤ most_columns
  pub whole : n * q ≤ length table
  pub small : (i j : ℕ) → i < n → j < q → at table q i j ≤ most_component

-- an equation of q coefficients within their limit
pub record SmallEquation (q : ℕ) (coefs : List ℤ) (from : ℕ) : Type 0 where
  pub unknowns : q ≤ most_columns
  pub whole : from + q ≤ length coefs
  pub small : (j : ℕ) → j < q → nat_abs (equation_at coefs from j) ≤ coefficient_limit

-- "32 · 1,000,000 · 1,000,000": far below 2 ^ 63
abbrev pub value_limit : ℕ
value_limit = most_columns * (coefficient_limit * most_component)

-- ---- the tables beside n rows

-- their values under the equation c
pub record Valued (c : ℕ → ℤ) (q n : ℕ) (table : List ℕ) (values : List ℤ) : Type 0 where
  pub long : n ≤ length values
  pub each : (i : ℕ) → i < n → get_or values i (pos 0) ≡ value c q (at table q i)

-- their degrees
pub record Measured (q n : ℕ) (table degrees : List ℕ) : Type 0 where
  pub long : n ≤ length degrees
  pub each : (i : ℕ) → i < n → get_or degrees i 0 ≡ total (at table q i) q

-- A tuple of q places folded to 16: places j and 16 + j are added up. What lies at or below does so folded.
abbrev pub folded : ℕ → (ℕ → ℕ) → ℕ → ℕ
folded q x j = cond (ltb j q) (x j) 0 + cond (ltb (16 + j) q) (x (16 + j)) 0

-- the word of a tuple of up to 32 places
abbrev pub word_of : ℕ → (ℕ → ℕ) → ℕ
word_of q x = word 16 (folded q x)

-- their words
pub record Worded (q n : ℕ) (table words : List ℕ) : Type 0 where
  pub long : n ≤ length words
  pub each : (i : ℕ) → i < n → get_or words i 0 ≡ word_of q (at table q i)

-- No value is as large as this: a number from here on is no mark.
abbrev pub no_mark : ℕ
no_mark = 4611686018427387904

-- their marks, those that are marks
pub record AllMarked (q : ℕ) (c : ℕ → ℤ) (n : ℕ) (table marks : List ℕ) : Type 0 where
  pub long : n ≤ length marks
  pub each : (i : ℕ) → i < n → get_or marks i 0 < no_mark → Marked q c n (at table q) (at table q i) (get_or marks i 0)
