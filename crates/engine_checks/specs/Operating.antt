-- Whether a row operation may be made, and what it computes. Assumes nothing.
use Rattle.std.specs.Prelude.{◌≡◌, Bool, not, ◌&&◌, ◌||◌, List, ℕ, ◌*◌, ◌≤◌, ◌<◌, eqb, leb, ℤ, pos, negsuc, nat_abs, ◌+ℤ◌, ◌*ℤ◌}
use Rattle.std.proofs.Common.{mul-le-mul, arith, to_z-of_z, SFits, of_z, to_z}
use Rattle.std.proofs.Math.Facts.{sfits_widen}
use Rattle.std.specs.Int.{w32, w64}
use Rattle.linear.proofs.Integers.{nat_abs_*ℤ, nat_abs_+ℤ, sfits_nat_abs}
use Rattle.linear.specs.Tests.{all_to}
use Rattle.definitions.specs.System.{is_zero}
use Rattle.engine_spec.specs.Beside.{SmallEquation, coefficient_limit, equation_at}
use Rattle.engine_beside.specs.Small.{coefficient_fits}

unfoldable pub combines_small : (q x y : ℕ) (u t : ℤ) → List ℤ → Bool
combines_small q x y u t equations =
    all_to q (λ j. leb (nat_abs ((u *ℤ equation_at equations x j) +ℤ (t *ℤ equation_at equations y j))) coefficient_limit)

abbrev pub operation_by : (q r s : ℕ) (u t : ℤ) → List ℤ → Bool
operation_by q r s u t equations = not (is_zero u) && ((not (eqb r s) || is_zero t) && combines_small q (r * q) (s * q) u t equations)

-- ---- the products fit

product_small : (u x : ℤ) → nat_abs u ≤ 2147483648 → nat_abs x ≤ coefficient_limit → nat_abs (u *ℤ x) ≤ 2147483648 * 1000000
product_small u x a b = omega (arith, nat_abs_*ℤ u x, mul-le-mul a b)

pub record Products (u x t y : ℤ) : Type 0 where
  pub left : SFits w64 (u *ℤ x)
  pub right : SFits w64 (t *ℤ y)
  pub sum : SFits w64 ((u *ℤ x) +ℤ (t *ℤ y))

pub products_fit : (u x t y : ℤ) → nat_abs u ≤ 2147483648 → nat_abs x ≤ coefficient_limit → nat_abs t ≤ 2147483648 → nat_abs y ≤ coefficient_limit
    → Products u x t y
products_fit u x t y a b c d =
    let l = product_small u x a b in
    let r = product_small t y c d in
    record {
      left = sfits_nat_abs (omega arith);
      right = sfits_nat_abs (omega arith);
      sum = sfits_nat_abs (omega (arith, nat_abs_+ℤ (u *ℤ x) (t *ℤ y)));
    }

-- ---- numbers as code reads them back

abbrev pub read32 : ℤ → ℤ
read32 x = to_z w32 (of_z w32 x)

abbrev pub read64 : ℤ → ℤ
read64 x = to_z w64 (of_z w64 x)

pub fit_small : (u : ℤ) → SFits w32 u → nat_abs u ≤ 2147483648
fit_small (pos n) f = omega (arith, f.sfits)
fit_small (negsuc n) f = omega (arith, f.sfits)

-- a number of 32 bits made one of 64
pub widened : {a u : ℤ} → SFits w32 u → a ≡ read32 u → read64 a ≡ u
widened f e = let w : SFits w64 _ = sfits_widen tt f in rw (e, to_z-of_z f) (to_z-of_z w)

-- u times x and t times y, from the numbers widened
module _ {u x t y : ℤ} (fu : SFits w32 u) (fx : SFits w32 x) (ft : SFits w32 t) (fy : SFits w32 y) {a b d e : ℤ} (ea : a ≡ read32 u) (eb : b ≡ read32 x)
    (ed : d ≡ read32 t) (ee : e ≡ read32 y) where
  module _ (sx : nat_abs x ≤ coefficient_limit) (sy : nat_abs y ≤ coefficient_limit) where
    pub wide_products : SFits w64 (read64 a *ℤ read64 b) × (SFits w64 (read64 d *ℤ read64 e) × SFits w64 ((read64 a *ℤ read64 b) +ℤ (read64 d *ℤ read64 e)))
    wide_products =
        let k = products_fit u x t y (fit_small u fu) sx (fit_small t ft) sy in
        rw (widened fu ea, widened fx eb, widened ft ed, widened fy ee) (k.left, (k.right, k.sum))

    pub wide_is : {v : ℤ} → v ≡ (read64 a *ℤ read64 b) +ℤ (read64 d *ℤ read64 e) → read64 v ≡ (u *ℤ x) +ℤ (t *ℤ y)
    wide_is h =
        let k = products_fit u x t y (fit_small u fu) sx (fit_small t ft) sy in
        let g = rw (widened fu ea, widened fx eb, widened ft ed, widened fy ee) at h in
        rw g (to_z-of_z k.sum)

-- the coefficients of two equations
module _ {q x y : ℕ} {equations : List ℤ} (a : SmallEquation q equations x) (b : SmallEquation q equations y) {u t : ℤ} (fu : SFits w32 u) (ft : SFits w32 t)
    (j : ℕ) (l : j < q) where
  pub combined_is : {v : ℤ} → v ≡ (read32 u *ℤ read32 (equation_at equations x j)) +ℤ (read32 t *ℤ read32 (equation_at equations y j))
      → v ≡ (u *ℤ equation_at equations x j) +ℤ (t *ℤ equation_at equations y j)
  combined_is h = rw (to_z-of_z fu, to_z-of_z ft, to_z-of_z (coefficient_fits a j l), to_z-of_z (coefficient_fits b j l)) at h

  pub combined_read : {v : ℤ} → v ≡ (read32 u *ℤ read32 (equation_at equations x j)) +ℤ (read32 t *ℤ read32 (equation_at equations y j))
      → read64 v ≡ (u *ℤ equation_at equations x j) +ℤ (t *ℤ equation_at equations y j)
  combined_read h =
      let k = products_fit u (equation_at equations x j) t (equation_at equations y j) (fit_small u fu) (a.small j l) (fit_small t ft) (b.small j l) in
      rw (combined_is h) (to_z-of_z k.sum)
