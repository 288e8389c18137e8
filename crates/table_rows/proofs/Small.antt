-- Theorems about what specs/Small.antt defines. Assumes nothing.
use Rattle.std.specs.Prelude.{◌≡◌, List, ℕ, ◌+◌, ◌*◌, ◌≤◌, ◌<◌, ℤ, pos, nat_abs, ◌*ℤ◌}
use Rattle.std.proofs.Common.{sym, ◌∙◌, ap, le_antisymm, mul-le-mul, mul-le-mul_right, arith, to_z-of_z, SFits, of_z, to_z}
use Rattle.std.specs.Int.{w32, w64}
use Rattle.linear.proofs.Integers.{nat_abs_*ℤ, sfits_nat_abs}
use Rattle.linear.proofs.SystemLaws.{inner_bound, inner_next}
use Rattle.linear.specs.Systems.{inner, value}
use Rattle.definitions.specs.System.{most_component}
use Rattle.table_rows.specs.Small.{SmallEquation, SmallRow, SmallTerms, added, equation_at, row_at}

-- ---- values

-- no value is above q · limit · 1,000,000 in size
pub value_small : (limit q : ℕ) (c : ℕ → ℤ) (x : ℕ → ℕ) → ((j : ℕ) → j < q → nat_abs (c j) ≤ limit) → ((j : ℕ) → j < q → x j ≤ most_component)
    → nat_abs (value c q x) ≤ q * (limit * most_component)
unfolding value
value_small limit q c x h r = inner_bound q limit most_component c (λ j. pos (x j)) h r

-- the value as it is written and read back
pub value_back : {q : ℕ} {coefs : List ℤ} {from : ℕ} {table : List ℕ} {base : ℕ} → SmallEquation q coefs from → SmallRow q table base → {v : ℤ}
    → v ≡ value (equation_at coefs from) q (row_at table base)
    → to_z w64 (of_z w64 v) ≡ value (equation_at coefs from) q (row_at table base)
value_back {q} {coefs} {from} {table} {base} e r h =
    rw h (to_z-of_z {w = w64} (sfits_nat_abs (omega (arith, value_small e.limit q (equation_at coefs from) (row_at table base) e.small r.small, e.low))))

pub coefficient_fits : {q : ℕ} {coefs : List ℤ} {from : ℕ} → SmallEquation q coefs from → (j : ℕ) → j < q → SFits w32 (equation_at coefs from j)
coefficient_fits s j l = sfits_nat_abs (omega (arith, s.small j l, s.narrow))

pub value_terms : {q : ℕ} {coefs : List ℤ} {from : ℕ} {table : List ℕ} {base : ℕ} (e : SmallEquation q coefs from) → SmallRow q table base
    → SmallTerms e.limit q (equation_at coefs from) (λ j. pos (row_at table base j))
value_terms e r = record { left = e.small; right = λ j l. r.small j l; narrow = e.narrow; low = e.low }

module _ {limit n : ℕ} {v w : ℕ → ℤ} (s : SmallTerms limit n v w) where
  left_fits : (i : ℕ) → i < n → SFits w64 (v i)
  left_fits i l = sfits_nat_abs (omega (arith, s.left i l, s.narrow))

  right_fits : (i : ℕ) → i < n → SFits w64 (w i)
  right_fits i l = sfits_nat_abs (omega (arith, s.right i l))

  term_fits : (i : ℕ) → i < n → SFits w64 (v i *ℤ w i)
  term_fits i l = sfits_nat_abs (omega (arith, nat_abs_*ℤ (v i) (w i), mul-le-mul (s.left i l) (s.right i l), s.narrow))

  sum_fits : (k : ℕ) → k ≤ n → SFits w64 (inner k v w)
  sum_fits k l =
      sfits_nat_abs
      (omega (
        arith,
        inner_bound k limit most_component v w (λ i m. s.left i (omega arith)) (λ i m. s.right i (omega arith)),
        mul-le-mul_right (limit * most_component) l,
        s.low,
      ))

  -- sum is the bits of the first k terms, and x * y is the next term
  module _ (k : ℕ) {sum : ℕ} (e : sum ≡ of_z w64 (inner k v w)) where
    pub sum_value : k ≤ n → to_z w64 sum ≡ inner k v w
    sum_value l = rw e (to_z-of_z (sum_fits k l))

    module _ (l : k < n) {x y : ℤ} (f : x ≡ v k) (g : y ≡ w k) where
      added_is : added sum x y ≡ inner (k + 1) v w
      added_is = rw (f, g, to_z-of_z (left_fits k l), to_z-of_z (right_fits k l), sum_value (omega arith)) (sym (inner_next k v w))

      pub next_fits : SFits w64 (to_z w64 (of_z w64 x) *ℤ to_z w64 (of_z w64 y)) × SFits w64 (added sum x y)
      next_fits =
          (rw (f, g, to_z-of_z (left_fits k l), to_z-of_z (right_fits k l)) (term_fits k l), rw added_is (sum_fits (k + 1) (omega arith)))

      pub next_sum : {r : ℤ} → r ≡ added sum x y → of_z w64 r ≡ of_z w64 (inner (k + 1) v w)
      next_sum h = ap (of_z w64) (h ∙ added_is)

-- the same of the value of a row: sum is the bits of its first k products, and x and y are the next coefficient and component as code reads them
module _ {q : ℕ} {coefs : List ℤ} {from : ℕ} {table : List ℕ} {base : ℕ} (e : SmallEquation q coefs from) (r : SmallRow q table base) (k : ℕ) {sum : ℕ}
    (h : sum ≡ of_z w64 (inner k (equation_at coefs from) (λ j. pos (row_at table base j)))) where
  module _ (l : k < q) {x y : ℤ} (f : x ≡ to_z w32 (of_z w32 (equation_at coefs from k))) (g : y ≡ pos (row_at table base k)) where
    pub product_fits : SFits w64 (to_z w64 (of_z w64 x) *ℤ to_z w64 (of_z w64 y)) × SFits w64 (added sum x y)
    product_fits = next_fits (value_terms e r) k h l (f ∙ to_z-of_z (coefficient_fits e k l)) g

    pub product_added : {v : ℤ} → v ≡ added sum x y → of_z w64 v ≡ of_z w64 (inner (k + 1) (equation_at coefs from) (λ j. pos (row_at table base j)))
    product_added = next_sum (value_terms e r) k h l (f ∙ to_z-of_z (coefficient_fits e k l)) g

  pub sum_read : k ≤ q → to_z w64 sum ≡ inner k (equation_at coefs from) (λ j. pos (row_at table base j))
  sum_read l = sum_value (value_terms e r) k h l

  pub value_whole : k ≤ q → q ≤ k → to_z w64 sum ≡ value (equation_at coefs from) q (row_at table base)
  unfolding value
  value_whole l m = let whole = sum_value (value_terms e r) k h l in rw (le_antisymm l m) at whole
