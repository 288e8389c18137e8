-- How the parts of a row join, and how long they are. Assumes nothing.
use Rattle.std.specs.Prelude.{ℕ, zero, suc, ◌+◌, ◌≤◌, ◌<◌, Bool, List, [], ◌∷◌, ◌++◌, ◌≡◌, refl, ℤ, pos, negsuc, nat_abs, length, get_or, drop}
use Rattle.std.proofs.Math.Bool.{true, false}
use Rattle.std.proofs.Common.{sym, ap, ◌∙◌, arith, length-append, drop_of_length-le, drop-cons, le-ltb, to_z-of_z, SFits, of_z, to_z}
use Rattle.std.proofs.Math.Numerals.{add-one}
use Rattle.std.specs.Int.Signed.{lt_z}
use Rattle.texts.specs.Decimals.{decimal}
use Rattle.std.specs.Int.{w32}
use Rattle.linear.proofs.Integers.{sfits_nat_abs}
use Rattle.equation_spec.proofs.WriteLaws.{multiple_short}
use Rattle.equation_spec.specs.Writing.{multiple, later_terms, terms}
use Rattle.equation_write.specs.Texts.{lead_text, is_negative, term_text, rest_text}

pub multiple_one : (m k : ℕ) → m ≡ 1 → multiple m k ≡ 120 ∷ decimal k
multiple_one m k e = rw e

pub multiple_many : (m k : ℕ) → 1 ≤ m → (m ≡ 1 → ⊥) → multiple m k ≡ decimal m ++ (42 ∷ 120 ∷ decimal k)
multiple_many zero k l e = absurd (omega arith)
multiple_many (suc zero) k l e = absurd (e refl)
multiple_many (suc (suc m)) k l e = refl

pub lead_short : (a b : Bool) → length (lead_text a b) ≤ 3
lead_short true true = omega arith
lead_short true false = omega arith
lead_short false true = omega arith
lead_short false false = omega arith

pub negative_is : (z : ℤ) → lt_z z (pos 0) ≡ is_negative z
negative_is (pos n) = le-ltb n 0 (omega arith)
negative_is (negsuc n) = refl

-- ---- what is left to write, by the next coefficient

by_sign : (first : Bool) (z : ℤ) (k : ℕ) (zs : List ℤ) → (z ≡ pos 0 → ⊥) → rest_text first k (z ∷ zs) ≡ term_text first z k ++ later_terms (suc k) zs
unfolding terms later_terms
by_sign first (pos zero) k zs h = absurd (h refl)
by_sign true (pos (suc n)) k zs h = refl
by_sign true (negsuc n) k zs h = refl
by_sign false (pos (suc n)) k zs h = refl
by_sign false (negsuc n) k zs h = refl

module _ (row : List ℤ) (i : ℕ) (l : i < length row) where
  next_is : drop i row ≡ get_or row i (pos 0) ∷ drop (i + 1) row
  next_is = rw (add-one, drop-cons row i (pos 0))

  pub rest_zero : (first : Bool) → get_or row i (pos 0) ≡ pos 0 → rest_text first (i + 1) (drop i row) ≡ rest_text first (i + 1 + 1) (drop (i + 1) row)
  unfolding terms later_terms
  rest_zero true e = rw (next_is, e, add-one (i + 1))
  rest_zero false e = rw (next_is, e, add-one (i + 1))

  pub rest_term : (first : Bool) → (get_or row i (pos 0) ≡ pos 0 → ⊥)
      → rest_text first (i + 1) (drop i row) ≡ term_text first (get_or row i (pos 0)) (i + 1) ++ later_terms (i + 1 + 1) (drop (i + 1) row)
  rest_term first h = rw (next_is, add-one (i + 1)) (by_sign first (get_or row i (pos 0)) (i + 1) (drop (i + 1) row) h)

pub rest_end : (row : List ℤ) (i k : ℕ) → length row ≤ i → (rest_text true k (drop i row) ≡ decimal 0) × (rest_text false k (drop i row) ≡ [])
unfolding terms later_terms
rest_end row i k l = rw (drop_of_length-le row l) (refl, refl)

-- ---- a coefficient in a word of 32 bits

module _ (z : ℤ) (l : nat_abs z ≤ 10000) where
  pub word_fits : SFits w32 z
  word_fits = sfits_nat_abs (omega arith)

  pub zero_word : of_z w32 z ≡ 0 → z ≡ pos 0
  zero_word e = sym (to_z-of_z word_fits) ∙ ap (to_z w32) e

  pub some_size : (of_z w32 z ≡ 0 → ⊥) → 1 ≤ nat_abs z
  some_size h = go z (λ e. h (ap (of_z w32) e))
    where
      go : (z : ℤ) → (z ≡ pos 0 → ⊥) → 1 ≤ nat_abs z
      go (pos zero) f = absurd (f refl)
      go (pos (suc n)) f = omega arith
      go (negsuc n) f = omega arith

pub term_short : (first : Bool) (z : ℤ) (k : ℕ) → nat_abs z ≤ 10000 → k ≤ 99 → length (term_text first z k) ≤ 12
term_short first z k l m = rw (length-append (lead_text first (is_negative z)))
    (omega (arith, lead_short first (is_negative z), multiple_short (nat_abs z) k l m))
