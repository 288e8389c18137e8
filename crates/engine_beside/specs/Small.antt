-- Values within the limits fit 64 bits; rows and equations within the engine's limits are such as the rows of every walk. Assumes nothing.
use Rattle.std.specs.Prelude.{◌≡◌, List, ℕ, ◌≤◌, ◌<◌, ℤ, nat_abs, ◌+ℤ◌}
use Rattle.std.proofs.Common.{arith, SFits, of_z, to_z}
use Rattle.std.proofs.Math.IntN.{pos}
use Rattle.std.specs.Int.{w32, w64}
use Rattle.linear.proofs.Integers.{nat_abs_+ℤ, sfits_nat_abs}
use Rattle.linear.proofs.SystemLaws.{inner_bound}
use Rattle.linear.specs.Systems.{value}
use Rattle.definitions.specs.System.{most_component}
use Rattle.table_rows.specs.Small as walks
use Rattle.table_rows.proofs.Small as walks_laws
use Rattle.engine_spec.specs.Beside.{SmallEquation, SmallRow, coefficient_limit, equation_at, row_at, value_limit}

-- ---- values

module _ {q : ℕ} {coefs : List ℤ} {from : ℕ} (x : ℕ → ℕ) (e : SmallEquation q coefs from) (r : (j : ℕ) → j < q → x j ≤ most_component) where
  pub value_small : nat_abs (value (equation_at coefs from) q x) ≤ value_limit
  unfolding value
  value_small = omega (arith, e.unknowns, inner_bound q coefficient_limit most_component (equation_at coefs from) (λ j. pos (x j)) e.small r)

  pub value_fits : SFits w64 (value (equation_at coefs from) q x)
  value_fits = sfits_nat_abs (omega (arith, value_small))

-- the sum of two values fits
pub sum_fits : (u v : ℤ) → nat_abs u ≤ value_limit → nat_abs v ≤ value_limit → SFits w64 (u +ℤ v)
sum_fits u v h k = sfits_nat_abs (omega (arith, nat_abs_+ℤ u v))

-- ---- as the rows of every walk

pub equation_within : {q : ℕ} {coefs : List ℤ} {from : ℕ} → SmallEquation q coefs from → walks.SmallEquation q coefs from
equation_within e =
    record { limit = coefficient_limit; whole = e.whole; small = e.small; narrow = omega arith; low = omega (arith, e.unknowns) }

pub row_within : {q : ℕ} {table : List ℕ} {base : ℕ} → SmallRow q table base → walks.SmallRow q table base
row_within r = record { whole = r.whole; small = r.small }

module _ {q : ℕ} {coefs : List ℤ} {from : ℕ} {table : List ℕ} {base : ℕ} (e : SmallEquation q coefs from) (r : SmallRow q table base) where
  -- the value as it is written and read back
  pub value_read : {v : ℤ} → v ≡ value (equation_at coefs from) q (row_at table base)
      → to_z w64 (of_z w64 v) ≡ value (equation_at coefs from) q (row_at table base)
  value_read h = walks_laws.value_back (equation_within e) (row_within r) h

pub coefficient_fits : {q : ℕ} {coefs : List ℤ} {from : ℕ} → SmallEquation q coefs from → (j : ℕ) → j < q → SFits w32 (equation_at coefs from j)
coefficient_fits s j l = sfits_nat_abs (omega (arith, s.small j l))
