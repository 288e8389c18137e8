-- Theorems about what specs/Signs.antt defines. Assumes nothing.
use Rattle.std.specs.Prelude.{◌≡◌, refl, ◌≢◌, ℕ, zero, suc, ◌+◌, ◌*◌, ◌-◌, ◌≤◌, ◌<◌, ℤ, pos, ◌+ℤ◌, ◌*ℤ◌}
use Rattle.std.proofs.Common.{◌∙◌, inl, inr, arith}
use Rattle.std.proofs.Math.Decide.{ℕ_discrete}
use Rattle.std.proofs.Math.IntN.{+ℤ_idl}
use Rattle.linear.specs.Combinations.{SumOf, combined_raise, combined_sum, combined_unit}
use Rattle.linear.proofs.Combinations.{combined_lower, combined_none, value_combined}
use Rattle.linear.specs.Differences.{down, integers, same_up, up, up_mul, down_mul}
use Rattle.linear.proofs.Differences.{one_side, sum_is}
use Rattle.linear.specs.Sums.{sum_to}
use Rattle.linear.proofs.SystemLaws.{value_same, value_sum}
use Rattle.linear.specs.Systems.{Solution, value}
use Rattle.linear.specs.TupleLaws.{unit_other}
use Rattle.linear.proofs.TupleLaws.{differ, term_le_total, total_less, total_some}
use Rattle.linear.specs.Tuples.{AtOrBelow, Nonzero, Same, raise, total, unit}
use Rattle.linear.proofs.Loops.{Solutions}
use Rattle.engine_spec.specs.Caps.{Inside, inside_below}
use Rattle.engine_spec.specs.Signs.{Closed, Consistent, Reduced, Smaller, Within, adds, downs_of, less_row, plus, ups_of, v, with_row, without, y}

-- ---- sums of multiples of numbers

-- the sums over rows are those of one component
weigh_sum : (n : ℕ) (x y z f : ℕ → ℕ) → ((i : ℕ) → i < n → z i ≡ x i + y i)
    → total (λ i. z i * f i) n ≡ total (λ i. x i * f i) n + total (λ i. y i * f i) n
weigh_sum n x y z f e = combined_sum n x y z (λ i j. f i) 0 e

weigh_unit : (n : ℕ) (f : ℕ → ℕ) (k : ℕ) → k < n → total (λ i. unit k i * f i) n ≡ f k
weigh_unit n f k l = combined_unit n (λ i j. f i) k 0 l

weigh_raise : (n : ℕ) (times f : ℕ → ℕ) (k : ℕ) → k < n → total (λ i. raise times k i * f i) n ≡ total (λ i. times i * f i) n + f k
weigh_raise n times f k l = combined_raise n times (λ i j. f i) k 0 l

weigh_lower : (n : ℕ) (times f : ℕ → ℕ) (k : ℕ) → k < n → 0 < times k
    → total (λ i. times i * f i) n ≡ total (λ i. (times i - unit k i) * f i) n + f k
weigh_lower n times f k l h = combined_lower n times (λ i j. f i) k 0 l h

factors_some : (a b : ℕ) → 0 < a * b → (0 < a) × (0 < b)
factors_some zero b h = absurd (omega arith)
factors_some (suc a) zero h = absurd (omega arith)
factors_some (suc a) (suc b) h = omega arith

-- a sum that is not 0 has a term that is taken and is not 0
weigh_some : (n : ℕ) (times f : ℕ → ℕ) → 0 < total (λ i. times i * f i) n → (k : ℕ) × (k < n) × (0 < times k) × (0 < f k)
weigh_some n times f h =
    let (k, l, some) = total_some (λ i. times i * f i) n (omega arith) in
    let (a, b) = factors_some (times k) (f k) some in
    (k, l, a, b)

weigh_term : (n : ℕ) (times f : ℕ → ℕ) (k : ℕ) → k < n → 0 < times k → f k ≤ total (λ i. times i * f i) n
weigh_term n times f k l h = omega (arith, weigh_lower n times f k l h)

-- ---- values of sums

-- the value of a sum is the sum of the positive parts less that of the negative parts
sum_sides : (n : ℕ) (times : ℕ → ℕ) (v : ℕ → ℤ)
    → up (sum_to n (λ i. pos (times i) *ℤ v i)) + total (λ i. times i * down (v i)) n
    ≡ total (λ i. times i * up (v i)) n + down (sum_to n (λ i. pos (times i) *ℤ v i))
unfolding sum_to total
sum_sides zero times v = refl
sum_sides (suc n) times v =
    omega (
      arith,
      sum_sides n times v,
      sum_is (sum_to n (λ i. pos (times i) *ℤ v i)) (pos (times n) *ℤ v n),
      up_mul (pos (times n)) (v n),
      down_mul (pos (times n)) (v n),
    )

module _ (q : ℕ) (c : ℕ → ℤ) (n : ℕ) (row : ℕ → ℕ → ℕ) where
  sides : (x : ℕ → ℕ) (s : SumOf q n row x) → up (value c q x) + downs_of q c n s.times row ≡ ups_of q c n s.times row + down (value c q x)
  sides x s =
      let e : value c q x ≡ sum_to n (λ i. pos (s.times i) *ℤ value c q (row i)) = value_same c q s.adds_up ∙ value_combined c q n s.times row in
      rw e (sum_sides n s.times (λ i. value c q (row i)))

  -- in such a sum each row that is taken has a value between 0 and that of x
  pub consistent_rows : {x : ℕ → ℕ} (d : Consistent q c n row x) (i : ℕ) → i < n → 0 < d.sum.times i → Within (value c q (row i)) (value c q x)
  consistent_rows d i l h =
      record {
        ups = omega (arith, d.ups, weigh_term n d.sum.times (λ i. up (value c q (row i))) i l h);
        downs = omega (arith, d.downs, weigh_term n d.sum.times (λ i. down (value c q (row i))) i l h);
      }

-- ---- signs

-- what is left of x after a part between 0 and x has been taken off has the sign of x
within_rest : (x r y : ℤ) → x ≡ r +ℤ y → Within r x → up y + up r ≡ up x
within_rest x r y e w = omega (arith, same_up e, sum_is r y, one_side x, one_side y, one_side (r +ℤ y), w.ups, w.downs)

-- a sum of a positive and a negative number has a smaller positive part
opposite_less : (x h k : ℤ) → x ≡ h +ℤ k → 0 < up h → 0 < down k → up x < up h + up k
opposite_less x h k e uh dk = omega (arith, same_up e, sum_is h k, one_side x, one_side h, one_side k, one_side (h +ℤ k))

-- ---- two rows of a sum put into another form

module _ (q n : ℕ) (row : ℕ → ℕ → ℕ) where
  module _ (times : ℕ → ℕ) (h k : ℕ) (hn : h < n) (kn : k < n) (apart : k ≢ h) (th : 0 < times h) (tk : 0 < times k) where
    weigh_without : (f : ℕ → ℕ) → total (λ i. times i * f i) n ≡ total (λ i. (without q n row) times h k i * f i) n + f k + f h
    weigh_without f =
        omega
        (arith, weigh_lower n times f h hn th, weigh_lower n (λ i. times i - unit h i) f k kn (omega (arith, unit_other h k apart)))

    weigh_swapped : (w f : ℕ → ℕ) → total (λ i. ((without q n row) times h k i + w i) * f i) n + f h + f k
        ≡ total (λ i. times i * f i) n + total (λ i. w i * f i) n
    weigh_swapped w f =
        omega (arith, weigh_without f, weigh_sum n ((without q n row) times h k) w (λ i. (without q n row) times h k i + w i) f (λ i l. refl))

  -- x with one copy of row h and one of row k made up in another way, and what becomes of sums over the rows
  swapped : {x : ℕ → ℕ} (s : SumOf q n row x) (h k : ℕ) → h < n → k < n → k ≢ h → 0 < s.times h → 0 < s.times k → (w : SumOf q n row (plus (row h) (row k)))
      → (r : SumOf q n row x) × ((f : ℕ → ℕ) → total (λ i. r.times i * f i) n + f h + f k ≡ total (λ i. s.times i * f i) n + total (λ i. w.times i * f i) n)
  swapped s h k hn kn apart th tk w = (
    record {
      times = λ i. (without q n row) s.times h k i + w.times i;
      adds_up = λ j jq. omega (arith, s.adds_up j jq, w.adds_up j jq, weigh_swapped s.times h k hn kn apart th tk w.times (λ i. row i j));
    },
    weigh_swapped s.times h k hn kn apart th tk w.times,
  )

-- ---- the theorem

module _ (cap p q : ℕ) (a : ℕ → ℕ → ℤ) (c : ℕ → ℤ) (n : ℕ) (row : ℕ → ℕ → ℕ) (solves : Solutions p q a n row) (some : (i : ℕ) → i < n → Nonzero q (row i))
    (found : (t : ℕ → ℕ) → Solution p q a t → Nonzero q t → Inside cap q t → (i : ℕ) × (i < n) × AtOrBelow q (row i) t) (closed : Closed cap q c n row) where
  from_ups : {x : ℕ → ℕ} (s : SumOf q n row x) → ups_of q c n s.times row ≡ up ((v cap p q a c n row solves some found closed) x) → Consistent q c n row x
  from_ups {x} s e = record { sum = s; ups = e; downs = omega (arith, sides q c n row x s) }

  plus_solves : (h k : ℕ) → h < n → k < n → Solution p q a (plus (row h) (row k))
  plus_solves h k hn kn i l =
      value_sum (a i) q (row h) (row k) (plus (row h) (row k)) (λ j jq. refl) ∙ rw (solves h hn i l, solves k kn i l) (+ℤ_idl (pos 0))

  module _ (d : ℕ) (smaller : (Smaller cap p q a c n row solves some found closed) d) (x : ℕ → ℕ) (sx : Solution p q a x) (inside : Inside cap q x)
      (size : total x q ≤ d) where
    -- x is a sum of rows
    some_sum : SumOf q n row x
    some_sum =
        elim (ℕ_discrete (total x q) 0) [
          | yes z ↦ record { times = λ i. 0; adds_up = λ j jq. omega (arith, combined_none n row j, term_le_total x q j jq) }
          | no ne ↦ let (k, low, under) =
              found x sx (total_some x q ne) inside in (with_row cap p q a c n row solves some found closed d smaller x sx inside size) k low under
        ]

    -- a row under x with a value between 0 and that of x is taken off
    taken_off : Reduced q c n row x → Consistent q c n row x
    taken_off r =
        let k = r.by in
        let w = (less_row cap p q a c n row solves some found closed d smaller x sx inside size) k r.low r.under in
        from_ups ((with_row cap p q a c n row solves some found closed d smaller x sx inside size) k r.low r.under)
        (omega (
          arith,
          weigh_raise n w.sum.times (λ i. up ((v cap p q a c n row solves some found closed) (row i))) k r.low,
          w.ups,
          within_rest ((v cap p q a c n row solves some found closed) x) ((v cap p q a c n row solves some found closed) (row k))
              ((v cap p q a c n row solves some found closed) (λ j. x j - row k j))
              (value_sum c q (row k) _ x ((adds cap p q a c n row solves some found closed d smaller x sx inside size) k r.low r.under)) r.within,
        ))

    reduced_same : {z : ℕ → ℕ} → Same q z x → Reduced q c n row z → Reduced q c n row x
    reduced_same e r =
        record { by = r.by; low = r.low; under = λ j jq. omega (arith, e j jq, r.under j jq); within = rw (value_same c q e) at r.within }

    -- two rows of opposite signs in the sum: those that work against each other
    pair : (s : SumOf q n row x) → ups_of q c n s.times row ≢ up ((v cap p q a c n row solves some found closed) x)
        → (h : ℕ) × (k : ℕ) × (h < n) × (k < n) × (0 < s.times h) × (0 < s.times k) × (0 < up ((v cap p q a c n row solves some found closed) (row h)))
        × (0 < down ((v cap p q a c n row solves some found closed) (row k)))
    pair s ne =
        let (h, hn, th, uh) =
        weigh_some n s.times (λ i. up ((v cap p q a c n row solves some found closed) (row i)))
        (omega (arith, sides q c n row x s, one_side ((v cap p q a c n row solves some found closed) x))) in
        let (k, kn, tk, dk) =
        weigh_some n s.times (λ i. down ((v cap p q a c n row solves some found closed) (row i)))
        (omega (arith, sides q c n row x s, one_side ((v cap p q a c n row solves some found closed) x))) in
        (h, k, hn, kn, th, tk, uh, dk)

    improve : (u : ℕ) (s : SumOf q n row x) → ups_of q c n s.times row < u → Consistent q c n row x
    improve zero s l = absurd (omega arith)
    improve (suc u) s l =
        elim (ℕ_discrete (ups_of q c n s.times row) (up ((v cap p q a c n row solves some found closed) x))) [
          | yes e ↦ from_ups s e
          | no ne ↦
              let (h, k, hn, kn, th, tk, uh, dk) = pair s ne in
              let apart : k ≢ h = λ e. omega (arith, one_side ((v cap p q a c n row solves some found closed) (row h)), rw e at dk) in
              let z = plus (row h) (row k) in
              let adds = weigh_without q n row s.times h k hn kn apart th tk in
              let under : AtOrBelow q z x = λ j jq. omega (arith, s.adds_up j jq, adds (λ i. row i j)) in
              elim (differ q z x) [
                | inl e ↦ taken_off (reduced_same e (closed h k hn kn uh dk (inside_below cap q z x under inside)))
                | inr (j, jq, ne') ↦
                    let w = smaller z (plus_solves h k hn kn) (inside_below cap q z x under inside) (omega (arith, total_less q under j jq ne')) in
                    let (swap, weighs) = swapped q n row s h k hn kn apart th tk w.sum in
                    improve u swap
                    (omega (
                      arith,
                      weighs (λ i. up ((v cap p q a c n row solves some found closed) (row i))),
                      w.ups,
                      opposite_less ((v cap p q a c n row solves some found closed) z) ((v cap p q a c n row solves some found closed) (row h))
                          ((v cap p q a c n row solves some found closed) (row k)) (value_sum c q (row h) (row k) z (λ j jq. refl)) uh dk,
                    ))
              ]
        ]

  by_size : (d : ℕ) → (Smaller cap p q a c n row solves some found closed) d
  by_size zero x sx inside l = absurd (omega arith)
  by_size (suc d) x sx inside l =
      let sum = some_sum d (by_size d) x sx inside (omega arith) in
      improve d (by_size d) x sx inside (omega arith) (suc (ups_of q c n sum.times row)) sum (omega arith)

  -- every solution of the equations so far that is inside the cap is a sum of rows whose values have its own sign or are 0
  pub sign_consistent : (x : ℕ → ℕ) → Solution p q a x → Inside cap q x → Consistent q c n row x
  sign_consistent x sx inside = by_size (suc (total x q)) x sx inside (omega arith)

  -- such a solution with value 0 is a sum of rows with value 0
  pub zero_rows : (x : ℕ → ℕ) → Solution p q a x → Inside cap q x → (v cap p q a c n row solves some found closed) x ≡ pos 0
      → (s : SumOf q n row x) × ((i : ℕ) → i < n → 0 < s.times i → (v cap p q a c n row solves some found closed) (row i) ≡ pos 0)
  zero_rows x sx inside e =
      let d = sign_consistent x sx inside in
      (d.sum, λ i l h. let w = consistent_rows q c n row d i l h in omega (integers, w.ups, w.downs, rw e at w.ups, rw e at w.downs))
