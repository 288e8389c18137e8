-- What the multiples of a list's rows in a tuple come to: with what is left they add up to the tuple, and no row that is not zero is left. Assumes nothing.
use Prim.Native.Nat.{ℕ, zero, suc, ◌+◌, ◌*◌, ◌/◌, ◌≤◌, ◌<◌}
use Rattle.std.specs.Prelude.{Bool, true, false, cond, ◌⊎◌, ◌≢◌, ◌≡◌, eqb, ltb, length}
use mathlib.Core.List.{List}
use Rattle.std.proofs.Math.Logic.{inl, inr}
use Rattle.std.proofs.Math.Path.{refl}
use Rattle.std.proofs.Common.{◌∙◌, div-mul-le_self, le-div_iff_mul-le, eqb→eq, ltb→lt, lt→ltb}
use Rattle.std.proofs.Math.Decide.{ℕ_discrete}
use Rattle.std.proofs.Math.Nat.{mul-le-mul_right}
use native.Mathlib.Omega.{arith}
use Rattle.std.proofs.Math.ListN.{get_or, set, length-set}
use Rattle.std.proofs.Math.Seq.{get_or-set_other, get_or-set_same}
use Rattle.linear.specs.Cases.{below_suc}
use Rattle.linear.proofs.Cases.{split}
use Rattle.linear.specs.Combinations.{combined}
use Rattle.linear.specs.Tuples.{AtOrBelow, Nonzero, Same, total}
use Rattle.definitions.specs.System.{most_component}
use Rattle.multiples_spec.specs.Parts.{bounded, left_over, lower, often, often_to, without, write_times}

-- ---- how often a row goes

-- the lesser of two numbers
least_le : (b : Bool) (m k : ℕ) → ltb m k ≡ b → (cond b m k ≤ m) × (cond b m k ≤ k)
least_le true m k e = (omega arith, omega (arith, ltb→lt m k (rw e tt)))
least_le false m k e = elim (split m k) [ inl l ↦ absurd (rw e at (lt→ltb m k l)) | inr l ↦ (l, omega arith) ]

lower_le : (k a b : ℕ) → lower k a b ≤ k
unfolding lower
lower_le k zero b = omega arith
lower_le k (suc a) b = (least_le (ltb (b / suc a) k) (b / suc a) k refl).1

lower_fits : (k a b : ℕ) → lower k a b * a ≤ b
unfolding lower
lower_fits k zero b = omega arith
lower_fits k (suc a) b =
    omega (arith, mul-le-mul_right (suc a) (least_le (ltb (b / suc a) k) (b / suc a) k refl).0, div-mul-le_self b (suc a))

-- one time more is too often for this place, where it is this place that bounds
past : (a b : ℕ) → b < suc (b / suc a) * suc a
past a b =
    elim (split b (suc (b / suc a) * suc a)) [
      | inl l ↦ l
      | inr l ↦ absurd (omega (arith, (le-div_iff_mul-le {k = suc a} {x = suc (b / suc a)} {y = b} (omega arith)).1 l))
    ]

either : (c : Bool) (m k : ℕ) → (cond c m k ≡ k) ⊎ (cond c m k ≡ m)
either true m k = inr refl
either false m k = inl refl

lower_bounds : (k a b : ℕ) → (lower k a b ≡ k) ⊎ (b < suc (lower k a b) * a)
unfolding lower
lower_bounds k zero b = inl refl
lower_bounds k (suc a) b = elim (either (ltb (b / suc a) k) (b / suc a) k) [ inl e ↦ inl e | inr e ↦ inr (rw e (past a b)) ]

module _ (r x : ℕ → ℕ) where
  -- as often as that, the row goes
  often_goes : (n j : ℕ) → j < n → often_to n r x * r j ≤ x j
  unfolding often_to
  often_goes zero j l = absurd (omega arith)
  often_goes (suc n) j l =
      elim (below_suc l) [
        | inl h ↦ omega (arith, often_goes n j h, mul-le-mul_right (r j) (lower_le (often_to n r x) (r n) (x n)))
        | inr e ↦ rw e (lower_fits (often_to n r x) (r n) (x n))
      ]

  -- and no oftener, where a place bounds it
  often_ends : (n : ℕ) → (often_to n r x ≡ suc most_component) ⊎ ((j : ℕ) × (j < n) × (x j < suc (often_to n r x) * r j))
  unfolding often_to
  often_ends zero = inl refl
  often_ends (suc n) =
      elim (lower_bounds (often_to n r x) (r n) (x n)) [
        | inl e ↦ elim (often_ends n) [ inl f ↦ inl (e ∙ f) | inr (j, l, h) ↦ inr (j, omega arith, rw e h) ]
        | inr h ↦ inr (n, omega arith, h)
      ]

bounded_le : (k : ℕ) → bounded k ≤ k
unfolding bounded
bounded_le k = of (eqb k (suc most_component))
  where
    of : (b : Bool) → cond b 0 k ≤ k
    of true = omega arith
    of false = omega arith

bounded_same : (k : ℕ) → k ≢ suc most_component → bounded k ≡ k
unfolding bounded
bounded_same k ne = of (eqb k (suc most_component)) refl
  where
    of : (b : Bool) → eqb k (suc most_component) ≡ b → cond b 0 k ≡ k
    of true e = absurd (ne (eqb→eq k (suc most_component) (rw e tt)))
    of false e = refl

-- the components of x are in their range
abbrev pub Small : ℕ → (ℕ → ℕ) → Type 0
Small q x = (j : ℕ) → j < q → x j ≤ most_component

module _ (q : ℕ) (r x : ℕ → ℕ) where
  pub often_fits : (j : ℕ) → j < q → often q r x * r j ≤ x j
  often_fits j l = omega (arith, often_goes r x q j l, mul-le-mul_right (r j) (bounded_le (often_to q r x)))

  -- a row that is not zero does not go into what is left
  pub taken_off : Small q x → Nonzero q r → ¬ (AtOrBelow q r (without q r x))
  taken_off small (j, l, some) b =
      elim (often_ends r x q) [
        | inl e ↦ absurd (omega (arith, small j l, rw e at (often_goes r x q j l), mul-le-mul_right (suc most_component) some))
        | inr (k, h, ends) ↦ elim (ℕ_discrete (often_to q r x) (suc most_component)) [
          | yes e ↦ absurd (omega (arith, small j l, rw e at (often_goes r x q j l), mul-le-mul_right (suc most_component) some))
          | no ne ↦ omega (arith, rw (bounded_same (often_to q r x) ne) at (b k h), often_goes r x q k h)
        ]
      ]

-- ---- the rows of a list

module _ (q : ℕ) (row : ℕ → ℕ → ℕ) where
  pub left_below : (n : ℕ) (x : ℕ → ℕ) → AtOrBelow q (left_over q n row x) x
  unfolding left_over
  left_below zero x j l = omega arith
  left_below (suc n) x j l = omega (arith, left_below n (without q (row n) x) j l)

  -- no row that is not zero is at or below what is left
  pub none_left : (n : ℕ) (x : ℕ → ℕ) → Small q x → (i : ℕ) → i < n → Nonzero q (row i) → ¬ (AtOrBelow q (row i) (left_over q n row x))
  unfolding left_over
  none_left zero x small i l some b = omega arith
  none_left (suc n) x small i l some b =
      elim (below_suc l) [
        | inl h ↦ none_left n (without q (row n) x) (λ j jq. omega (arith, small j jq)) i h some b
        | inr e ↦ taken_off q (row n) x small (rw e at some) (λ j jq. omega (arith, rw e at (b j jq), left_below n (without q (row n) x) j jq))
      ]

  -- ---- the multiples in their table

  pub times_length : (n : ℕ) (x : ℕ → ℕ) (table : List ℕ) → length (write_times q n row x table) ≡ length table
  unfolding write_times
  times_length zero x table = refl
  times_length (suc n) x table = times_length n (without q (row n) x) (set table n (often q (row n) x)) ∙ length-set table n (often q (row n) x)

  -- past those of the first n rows the table keeps what stood there
  pub times_outside : (n : ℕ) (x : ℕ → ℕ) (table : List ℕ) (i : ℕ) → n ≤ i → get_or (write_times q n row x table) i 0 ≡ get_or table i 0
  unfolding write_times
  times_outside zero x table i l = refl
  times_outside (suc n) x table i l =
      times_outside n (without q (row n) x) (set table n (often q (row n) x)) i (omega arith) ∙ get_or-set_other table n i (often q (row n) x) 0 (omega arith)

  -- the rows, as often as the table says, and what is left add up to the tuple
  pub times_add_up : (n : ℕ) (x : ℕ → ℕ) (table : List ℕ) → n ≤ length table → (j : ℕ) → j < q
      → x j ≡ combined n (λ i. get_or (write_times q n row x table) i 0) row j + left_over q n row x j
  unfolding write_times left_over total
  times_add_up zero x table l j jq = omega arith
  times_add_up (suc n) x table l j jq =
      let k = often q (row n) x in
      let rest : ℕ → ℕ = without q (row n) x in
      let table' : List ℕ = set table n k in
      let here : get_or (write_times q n row rest table') n 0 ≡ k = times_outside n rest table' n (omega arith) ∙ get_or-set_same table n k 0 (omega arith) in
      rw here
      (omega (arith, times_add_up n rest table' (rw (length-set table n k) (omega arith)) j jq, often_fits q (row n) x j jq))

-- ---- only the first q components of a tuple are read

often_same : (n : ℕ) (r : ℕ → ℕ) {x y : ℕ → ℕ} → Same n x y → often_to n r x ≡ often_to n r y
unfolding often_to
often_same zero r e = refl
often_same (suc n) r e = rw (often_same n r (λ j l. e j (omega arith)), e n (omega arith))

module _ (q : ℕ) (row : ℕ → ℕ → ℕ) where
  without_same : (r : ℕ → ℕ) {x y : ℕ → ℕ} → Same q x y → Same q (without q r x) (without q r y)
  without_same r e j l = rw (often_same q r e, e j l)

  pub left_same : (n : ℕ) {x y : ℕ → ℕ} → Same q x y → Same q (left_over q n row x) (left_over q n row y)
  unfolding left_over
  left_same zero e = e
  left_same (suc n) e = left_same n (without_same (row n) e)

  pub times_same : (n : ℕ) {x y : ℕ → ℕ} (table : List ℕ) → Same q x y → write_times q n row x table ≡ write_times q n row y table
  unfolding write_times
  times_same zero table e = refl
  times_same (suc n) table e = rw (often_same q (row n) e) (times_same n _ (without_same (row n) e))
