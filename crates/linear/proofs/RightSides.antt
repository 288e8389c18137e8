-- Right sides (section 7 of Contejean and Devie): a system with right sides b is the homogeneous one with an extra unknown, placed first, whose column is
-- -b. At 0 of the extra unknown stand the solutions of the system without right sides, at 1 the tuples that meet them. Assumes nothing.
use Rattle.std.specs.Prelude.{◌≡◌, refl, ℕ, zero, suc, ◌-◌, ◌<◌, ℤ, neg_ℤ, ◌*ℤ◌}
use Rattle.std.proofs.Common.{sym, ◌∙◌, ap, arith}
use Rattle.std.proofs.Math.Path.{ap₂}
use Rattle.std.proofs.Math.IntN.{pos, ◌+ℤ◌, *ℤ-zero, +ℤ_idl, +ℤ_idr, +ℤ_assoc}
use Rattle.linear.specs.Differences.{integers, up_neg, down_neg}
use Rattle.linear.proofs.Differences.{sum_is}
use Rattle.linear.proofs.Integers.{*ℤ-one'}
use Rattle.linear.specs.Sums.{sum_to}
use Rattle.linear.specs.Tuples.{AtOrBelow, rest}
use Rattle.linear.specs.Systems.{inner, value, image, Solution, Meets}
use Rattle.linear.proofs.SystemLaws.{inner_cong, value_sum}

-- the first term apart
sum_first : (n : ℕ) (f : ℕ → ℤ) → sum_to (suc n) f ≡ f 0 +ℤ sum_to n (λ j. f (suc j))
unfolding sum_to
sum_first zero f = +ℤ_idl (f 0) ∙ sym (+ℤ_idr (f 0))
sum_first (suc n) f = rw (sum_first n f) (+ℤ_assoc (f 0) _ _)

pub value_first : (c : ℕ → ℤ) (q : ℕ) (x : ℕ → ℕ) → value c (suc q) x ≡ c 0 *ℤ pos (x 0) +ℤ value (λ j. c (suc j)) q (rest x)
unfolding value inner
value_first c q x = sum_first q (λ j. c j *ℤ pos (x j))

-- e is a with the extra unknown of the right sides b
pub record Extends (p q : ℕ) (a : ℕ → ℕ → ℤ) (b : ℕ → ℤ) (e : ℕ → ℕ → ℤ) : Type 0 where
  pub first : (i : ℕ) → i < p → e i 0 ≡ neg_ℤ (b i)
  pub others : (i j : ℕ) → i < p → j < q → e i (suc j) ≡ a i j

module _ {p q : ℕ} {a : ℕ → ℕ → ℤ} {b : ℕ → ℤ} {e : ℕ → ℕ → ℤ} (x : Extends p q a b e) where
  image_first : (t : ℕ → ℕ) (i : ℕ) → i < p → image e (suc q) t i ≡ neg_ℤ (b i) *ℤ pos (t 0) +ℤ image a q (rest t) i
  unfolding value
  image_first t i l = value_first (e i) q t ∙ ap₂ ◌+ℤ◌ (ap (λ z. z *ℤ pos (t 0)) (x.first i l)) (inner_cong q (λ j k. x.others i j l k) (λ j k. refl))

  image_at_0 : (t : ℕ → ℕ) → t 0 ≡ 0 → (i : ℕ) → i < p → image e (suc q) t i ≡ image a q (rest t) i
  image_at_0 t z i l = image_first t i l ∙ rw (z, *ℤ-zero (neg_ℤ (b i))) (+ℤ_idl _)

  image_at_1 : (t : ℕ → ℕ) → t 0 ≡ 1 → (i : ℕ) → i < p → image e (suc q) t i ≡ neg_ℤ (b i) +ℤ image a q (rest t) i
  image_at_1 t z i l = image_first t i l ∙ rw (z, *ℤ-one' (neg_ℤ (b i))) refl

  pub solution_at_0 : (t : ℕ → ℕ) → t 0 ≡ 0 → Solution p (suc q) e t → Solution p q a (rest t)
  solution_at_0 t z s i l = sym (image_at_0 t z i l) ∙ s i l

  pub at_0_solution : (t : ℕ → ℕ) → t 0 ≡ 0 → Solution p q a (rest t) → Solution p (suc q) e t
  at_0_solution t z s i l = image_at_0 t z i l ∙ s i l

  pub solution_at_1 : (t : ℕ → ℕ) → t 0 ≡ 1 → Solution p (suc q) e t → Meets p q a b (rest t)
  solution_at_1 t z s i l =
      let h = sym (image_at_1 t z i l) ∙ s i l in
      omega (integers, h, sum_is (neg_ℤ (b i)) (image a q (rest t) i), up_neg (b i), down_neg (b i))

  pub at_1_solution : (t : ℕ → ℕ) → t 0 ≡ 1 → Meets p q a b (rest t) → Solution p (suc q) e t
  at_1_solution t z s i l = image_at_1 t z i l ∙ omega (integers, s i l, sum_is (neg_ℤ (b i)) (image a q (rest t) i), up_neg (b i), down_neg (b i))

-- a tuple that meets the right sides, and a solution at or below it: their difference meets them too
pub meets_less : (p q : ℕ) (a : ℕ → ℕ → ℤ) (b : ℕ → ℤ) (t s : ℕ → ℕ) → Meets p q a b t → Solution p q a s → AtOrBelow q s t → Meets p q a b (λ j. t j - s j)
meets_less p q a b t s mt ss under i l =
    let whole = value_sum (a i) q (λ j. t j - s j) s t (λ j k. omega (arith, under j k)) in
    sym (+ℤ_idr _) ∙ ap (λ z. value (a i) q (λ j. t j - s j) +ℤ z) (sym (ss i l)) ∙ sym whole ∙ mt i l
