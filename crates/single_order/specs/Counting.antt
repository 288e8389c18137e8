-- The loop of `in_profile`: the ones of a column counted so far, and the ways out. Assumes nothing.
use Rattle.std.specs.Prelude.{◌≡◌, refl, Bool, true, false, ◌||◌, ℕ, ◌+◌, ◌≤◌, ◌<◌, leb, ℤ, pos, negsuc}
use Rattle.std.proofs.Math.Nat.{le_antisymm}
use Rattle.std.proofs.Common.{add-one, arith}
use borrow.Author.Tests.{eq-eqb, eqb-true, ne_eqb}
use Rattle.linear.proofs.LoopLaws.{all_fails, all_next}
use Rattle.linear.specs.Tests.{all_to, count_to}
use Rattle.definitions.specs.System.{is_zero}
use Rattle.single_spec.specs.Profile.{in_profile, is_minus_one, is_one}

abbrev known : (ℕ → ℤ) → ℕ → Bool
known c i = is_zero (c i) || (is_one (c i) || is_minus_one (c i))

-- the first i numbers of the column are 0, 1 and -1, and so many are 1 and -1
pub record Counted (c : ℕ → ℤ) (i ones minus : ℕ) : Type 0 where
  pub all_known : all_to i (known c) ≡ true
  pub ones_are : ones ≡ count_to i (λ k. is_one (c k))
  pub minus_are : minus ≡ count_to i (λ k. is_minus_one (c k))
  pub ones_few : ones ≤ i
  pub minus_few : minus ≤ i

pub counted_none : (c : ℕ → ℤ) → Counted c 0 0 0
unfolding all_to count_to
counted_none c = record { all_known = refl; ones_are = refl; minus_are = refl; ones_few = omega arith; minus_few = omega arith }

one_not_minus : (z : ℤ) → is_one z ≡ true → is_minus_one z ≡ false
one_not_minus (pos n) e = refl
one_not_minus (negsuc n) e = absurd (let z : ◌≡◌ {A = ℕ} 0 1 = cc in omega arith)

one_known : (z : ℤ) → is_one z ≡ true → (is_zero z || (is_one z || is_minus_one z)) ≡ true
one_known (pos n) e = let g = eqb-true n 1 e in rw g
one_known (negsuc n) e = absurd (let z : ◌≡◌ {A = ℕ} 0 1 = cc in omega arith)

minus_known : (z : ℤ) → is_minus_one z ≡ true → (is_zero z || (is_one z || is_minus_one z)) ≡ true
minus_known (pos n) e = absurd (let z : ◌≡◌ {A = ℕ} 0 1 = cc in omega arith)
minus_known (negsuc n) e = e

module _ {c : ℕ → ℤ} {i ones minus : ℕ} (h : Counted c i ones minus) where
  pub counted_one : is_one (c i) ≡ true → Counted c (i + 1) (ones + 1) minus
  unfolding count_to
  counted_one e =
      record {
        all_known = all_next i (known c) h.all_known (one_known (c i) e);
        ones_are = rw (add-one i, e) (omega (arith, h.ones_are));
        minus_are = rw (add-one i, one_not_minus (c i) e) (omega (arith, h.minus_are));
        ones_few = omega (arith, h.ones_few);
        minus_few = omega (arith, h.minus_few);
      }

  pub counted_minus : is_one (c i) ≡ false → is_minus_one (c i) ≡ true → Counted c (i + 1) ones (minus + 1)
  unfolding count_to
  counted_minus n e =
      record {
        all_known = all_next i (known c) h.all_known (minus_known (c i) e);
        ones_are = rw (add-one i, n) (omega (arith, h.ones_are));
        minus_are = rw (add-one i, e) (omega (arith, h.minus_are));
        ones_few = omega (arith, h.ones_few);
        minus_few = omega (arith, h.minus_few);
      }

  pub counted_zero : is_one (c i) ≡ false → is_minus_one (c i) ≡ false → is_zero (c i) ≡ true → Counted c (i + 1) ones minus
  unfolding count_to
  counted_zero n o e =
      record {
        all_known = all_next i (known c) h.all_known (rw e);
        ones_are = rw (add-one i, n) (omega (arith, h.ones_are));
        minus_are = rw (add-one i, o) (omega (arith, h.minus_are));
        ones_few = omega (arith, h.ones_few);
        minus_few = omega (arith, h.minus_few);
      }

  pub counted_other : (p : ℕ) → i < p → is_one (c i) ≡ false → is_minus_one (c i) ≡ false → is_zero (c i) ≡ false → false ≡ in_profile p c
  unfolding in_profile
  counted_other p l n o e = rw (all_fails p (known c) i l (rw (e, n, o)))

  module _ (p : ℕ) (a : i ≤ p) (b : p ≤ i) where
    pub counted_same : ones ≡ minus → leb ones 1 ≡ in_profile p c
    unfolding in_profile
    counted_same e =
        let g = le_antisymm a b in
        rw (← g, h.all_known, ← h.ones_are, ← h.minus_are, eq-eqb ones minus e)

    pub counted_apart : (ones ≡ minus → ⊥) → false ≡ in_profile p c
    unfolding in_profile
    counted_apart ne =
        let g = le_antisymm a b in
        rw (← g, h.all_known, ← h.ones_are, ← h.minus_are, ne_eqb ones minus ne)
