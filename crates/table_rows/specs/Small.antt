-- Rows and equations within limits, as code holds them, and the sums of products that lead to a value: all that code adds up fits 64 bits. The limit of the
-- coefficients is the caller's. Assumes nothing.
use Rattle.std.specs.Prelude.{List, ℕ, ◌+◌, ◌*◌, ◌^◌, ◌≤◌, ◌<◌, ℤ, pos, nat_abs, ◌+ℤ◌, ◌*ℤ◌, length, get_or}
use Rattle.std.proofs.Common.{of_z, to_z}
use Rattle.std.specs.Int.{w64}
use Rattle.definitions.specs.System.{most_component}

-- the coefficients from place `from` on, and the row of a table from place `base` on
abbrev pub equation_at : List ℤ → ℕ → ℕ → ℤ
equation_at coefs from j = get_or coefs (from + j) (pos 0)

abbrev pub row_at : List ℕ → ℕ → ℕ → ℕ
row_at table base j = get_or table (base + j) 0

-- a row within the component limit
pub record SmallRow (q : ℕ) (table : List ℕ) (base : ℕ) : Type 0 where
  pub whole : base + q ≤ length table
  pub small : (j : ℕ) → j < q → row_at table base j ≤ most_component

-- an equation of q coefficients, none above `limit` in size, whose values on such rows fit 64 bits
pub record SmallEquation (q : ℕ) (coefs : List ℤ) (from : ℕ) : Type 0 where
  pub limit : ℕ
  pub whole : from + q ≤ length coefs
  pub small : (j : ℕ) → j < q → nat_abs (equation_at coefs from j) ≤ limit
  pub narrow : limit < 2 ^ 31
  pub low : q * (limit * most_component) < 2 ^ 63

-- ---- sums of products

-- the factors of n products, of a coefficient and a component
pub record SmallTerms (limit n : ℕ) (v w : ℕ → ℤ) : Type 0 where
  pub left : (i : ℕ) → i < n → nat_abs (v i) ≤ limit
  pub right : (i : ℕ) → i < n → nat_abs (w i) ≤ most_component
  pub narrow : limit < 2 ^ 31
  pub low : n * (limit * most_component) < 2 ^ 63

-- the code's `sum + x * y`, each number read from its bits
abbrev pub added : ℕ → ℤ → ℤ → ℤ
added sum x y = to_z w64 sum +ℤ to_z w64 (of_z w64 x) *ℤ to_z w64 (of_z w64 y)
