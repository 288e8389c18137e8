-- A system with right sides, extended by the extra unknown: its coefficients, their number and their range. Assumes nothing.
use Rattle.std.specs.Prelude.{◌≡◌, refl, List, ◌∷◌, ℤ, pos, negsuc, neg_ℤ, nat_abs, length, get_or, take, drop}
use Rattle.std.proofs.Common.{◌∙◌, ap, inl, inr, mul-le-mul_right, length-drop, get_or-append-add, get_or-drop, get_or-take, length-take-le}
use Prim.Native.Nat.{ℕ, zero, suc, ◌+◌, ◌*◌, ◌-◌, ◌≤◌, ◌<◌}
use native.Mathlib.Omega.{arith}
use Rattle.std.proofs.Math.ListN.{length-append, get_or-append}
use Rattle.linear.specs.Cases.{below_suc}
use Rattle.linear.proofs.Cases.{split}
use Rattle.linear.proofs.RightSides.{Extends}
use Rattle.definitions.specs.System.{System, coef, coef_limit, extend_to, extended}

nat_abs_neg : (z : ℤ) → nat_abs (neg_ℤ z) ≡ nat_abs z
nat_abs_neg (pos zero) = refl
nat_abs_neg (pos (suc n)) = refl
nat_abs_neg (negsuc n) = refl

module _ (q : ℕ) (coefs rights : List ℤ) where
  -- the row n of the extended system
  abbrev tail : ℕ → List ℤ
  tail n = neg_ℤ (get_or rights n (pos 0)) ∷ take q (drop (n * q) coefs)

  tail_length : (n : ℕ) → suc n * q ≤ length coefs → length (tail n) ≡ suc q
  tail_length n h = ap suc (length-take-le q (drop (n * q) coefs) (omega (arith, length-drop (n * q) coefs)))

  pub extend_length : (n : ℕ) → n * q ≤ length coefs → length (extend_to n q coefs rights) ≡ n * suc q
  unfolding extend_to
  extend_length zero h = omega arith
  extend_length (suc n) h =
      omega (arith, length-append (extend_to n q coefs rights) (tail n), extend_length n (omega arith), tail_length n h)

  tail_other : (n j : ℕ) → j < q → get_or (tail n) (suc j) (pos 0) ≡ get_or coefs (n * q + j) (pos 0)
  tail_other n j l = get_or-take q (drop (n * q) coefs) j (pos 0) l ∙ get_or-drop (n * q) coefs j (pos 0)

  -- a place in an earlier row, and in the last one
  extend_before : (n k : ℕ) → n * q ≤ length coefs → k < n * suc q
      → get_or (extend_to (suc n) q coefs rights) k (pos 0) ≡ get_or (extend_to n q coefs rights) k (pos 0)
  unfolding extend_to
  extend_before n k h l = get_or-append (extend_to n q coefs rights) (tail n) (pos 0) k (rw (extend_length n h) l)

  extend_last : (n x : ℕ) → n * q ≤ length coefs → get_or (extend_to (suc n) q coefs rights) (n * suc q + x) (pos 0) ≡ get_or (tail n) x (pos 0)
  unfolding extend_to
  extend_last n x h = rw (extend_length n h) at (get_or-append-add (extend_to n q coefs rights) (tail n) x (pos 0))

  pub extend_entry : (n : ℕ) → n * q ≤ length coefs → (i x : ℕ) → i < n → x < suc q
      → get_or (extend_to n q coefs rights) (i * suc q + x) (pos 0) ≡ get_or (tail i) x (pos 0)
  extend_entry zero h i x l k = absurd (omega arith)
  extend_entry (suc n) h i x l k =
      elim (below_suc l) [
        | inl il ↦ extend_before n (i * suc q + x) (omega arith) (omega (arith, mul-le-mul_right (suc q) il)) ∙ extend_entry n (omega arith) i x il k
        | inr e ↦ let hi : i * q ≤ length coefs = rw e (omega arith) in rw (← e) (extend_last i x hi)
      ]

  module _ (small : (i : ℕ) → i < length coefs → nat_abs (get_or coefs i (pos 0)) ≤ coef_limit)
      (right : (i : ℕ) → nat_abs (get_or rights i (pos 0)) ≤ coef_limit) where
    tail_range : (n x : ℕ) → suc n * q ≤ length coefs → x < suc q → nat_abs (get_or (tail n) x (pos 0)) ≤ coef_limit
    tail_range n zero h l = rw (nat_abs_neg (get_or rights n (pos 0))) (right n)
    tail_range n (suc j) h l = rw (tail_other n j (omega arith)) (small (n * q + j) (omega arith))

    pub extend_range : (n : ℕ) → n * q ≤ length coefs → (k : ℕ) → k < n * suc q → nat_abs (get_or (extend_to n q coefs rights) k (pos 0)) ≤ coef_limit
    extend_range zero h k l = absurd (omega arith)
    extend_range (suc n) h k l =
        elim (split k (n * suc q)) [
          | inl lk ↦ rw (extend_before n k (omega arith) lk) (extend_range n (omega arith) k lk)
          | inr kl ↦
              let x : ℕ = k - n * suc q in
              let at : k ≡ n * suc q + x = omega arith in
              rw (at, extend_last n x (omega arith)) (tail_range n x h (omega arith))
        ]

-- the extended system is that of the right sides
pub extends : (m : System) (rights : List ℤ) → length m.coefs ≡ m.p * m.q
    → Extends m.p m.q (coef m) (λ i. get_or rights i (pos 0)) (coef (extended rights m))
extends m rights len =
    record {
      first = λ i l. extend_entry m.q m.coefs rights m.p (omega (arith, len)) i 0 l (omega arith);
      others =
          λ i j l k. extend_entry m.q m.coefs rights m.p (omega (arith, len)) i (suc j) l (omega arith) ∙ tail_other m.q m.coefs rights i j k;
    }
