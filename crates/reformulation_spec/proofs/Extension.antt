-- Theorems about what specs/Extension.antt defines. Assumes nothing.
use Rattle.std.specs.Prelude.{◌≡◌, refl, cond, ℕ, zero, suc, ◌+◌, ◌-◌, ◌≤◌, ◌<◌, ltb, ℤ, negsuc, nat_abs, ◌*ℤ◌, ◌≤ℤ◌}
use Rattle.std.proofs.Math.Path.{sym, ap₂}
use Rattle.std.proofs.Common.{◌∙◌, ap, inl, inr, add-suc, add-zero, arith, le-ltb, lt-ltb}
use Rattle.std.proofs.Math.IntN.{pos, ◌+ℤ◌, +ℤ_assoc, +ℤ_idl, +ℤ_idr, zero-*ℤ}
use Rattle.std.specs.Int.Signed.{pos-nat_abs, yes_non_neg}
use Rattle.linear.proofs.Cases.{split}
use Rattle.linear.proofs.Combinations.{rest_solves, solution_same}
use Rattle.linear.specs.Differences.{down_mul, integers, up_mul}
use Rattle.linear.proofs.Differences.{sum_is}
use Rattle.linear.proofs.Loops.{Loop}
use Rattle.linear.specs.Sums.{sum_to}
use Rattle.linear.proofs.Sums.{sum_change, sum_cong, sum_zero}
use Rattle.linear.specs.Systems.{Solution, inner, value}
use Rattle.linear.proofs.SystemLaws.{inner_cong, inner_zero, value_same, value_sum}
use Rattle.linear.specs.Tuples.{AtOrBelow, Nonzero, Same}
use Rattle.linear.proofs.TupleLaws.{differ, least, minimal_from}
use Rattle.reformulation_spec.specs.Extension.{Extends}

-- no further unknown is below 0 at a solution of the map
abbrev pub NeverBelow : (p q k : ℕ) (a v : ℕ → ℕ → ℤ) → Type 0
NeverBelow p q k a v = (x : ℕ → ℕ) → Solution p q a x → (l : ℕ) → l < k → pos 0 ≤ℤ value (v (p + l)) q x

-- x with the further unknowns beside it
abbrev pub with : (p q : ℕ) (v : ℕ → ℕ → ℤ) (x : ℕ → ℕ) → ℕ → ℕ
with p q v x j = cond (ltb j q) (x j) (nat_abs (value (v (p + (j - q))) q x))

-- ---- values

-- the first q places apart
value_parts : (c : ℕ → ℤ) (q k : ℕ) (x : ℕ → ℕ) → value c (q + k) x ≡ value c q x +ℤ value (λ j. c (q + j)) k (λ j. x (q + j))
unfolding value inner sum_to
value_parts c q zero x = rw (add-zero q) (sym (+ℤ_idr _))
value_parts c q (suc k) x =
    rw (add-suc q k, value_parts c q k x)
    (+ℤ_assoc (value c q x) (value (λ j. c (q + j)) k (λ j. x (q + j))) (c (q + k) *ℤ pos (x (q + k))))

module _ {p q k : ℕ} {a v : ℕ → ℕ → ℤ} (e : Extends p q k a v) where
  -- an equation of the map
  value_map : (x : ℕ → ℕ) (i : ℕ) → i < p → value (v i) (q + k) x ≡ value (a i) q x
  unfolding value inner
  value_map x i l =
      value_parts (v i) q k x
      ∙ ap₂ ◌+ℤ◌ (inner_cong q (λ j h. e.map i j l h) (λ j h. refl))
      (sum_cong k (λ n h. rw (e.free i n l h) (zero-*ℤ (pos (x (q + n))))) ∙ sum_zero k)
      ∙ +ℤ_idr _

  pub row_map : (x : ℕ → ℕ) (i : ℕ) → i < p → value (v i) q x ≡ value (a i) q x
  unfolding value
  row_map x i l = inner_cong q (λ j h. e.map i j l h) (λ j h. refl)

  -- the equation of a further unknown
  own_term : (x : ℕ → ℕ) (l : ℕ) → l < k → value (λ j. v (p + l) (q + j)) k (λ j. x (q + j)) ≡ negsuc 0 *ℤ pos (x (q + l))
  unfolding value inner
  own_term x l h =
      sym (+ℤ_idr _)
      ∙ sum_change k (λ j. v (p + l) (q + j) *ℤ pos (x (q + j))) (λ j. pos 0) l h (λ n nk ne. rw (e.others l n h nk ne) (zero-*ℤ (pos (x (q + n)))))
      ∙ ap₂ ◌+ℤ◌ (sum_zero k) (ap (λ z. z *ℤ pos (x (q + l))) (e.own l h))
      ∙ +ℤ_idl _

  value_own : (x : ℕ → ℕ) (l : ℕ) → l < k → value (v (p + l)) (q + k) x ≡ value (v (p + l)) q x +ℤ (negsuc 0 *ℤ pos (x (q + l)))
  value_own x l h = value_parts (v (p + l)) q k x ∙ ap (λ z. value (v (p + l)) q x +ℤ z) (own_term x l h)

  less_zero : (z : ℤ) (n : ℕ) → z +ℤ (negsuc 0 *ℤ pos n) ≡ pos 0 → z ≡ pos n
  less_zero z n h = omega (integers, h, sum_is z (negsuc 0 *ℤ pos n), up_mul (negsuc 0) (pos n), down_mul (negsuc 0) (pos n))

  zero_less : (z : ℤ) (n : ℕ) → z ≡ pos n → z +ℤ (negsuc 0 *ℤ pos n) ≡ pos 0
  zero_less z n h = omega (integers, h, sum_is z (negsuc 0 *ℤ pos n), up_mul (negsuc 0) (pos n), down_mul (negsuc 0) (pos n))

  -- ---- solutions

  -- a solution of the extended map is one of the map, which says what the further unknowns are
  pub solution_map : (x : ℕ → ℕ) → Solution (p + k) (q + k) v x → Solution p q a x
  solution_map x s i l = sym (value_map x i l) ∙ s i (omega arith)

  pub solution_further : (x : ℕ → ℕ) → Solution (p + k) (q + k) v x → (l : ℕ) → l < k → value (v (p + l)) q x ≡ pos (x (q + l))
  solution_further x s l h = less_zero _ _ (sym (value_own x l h) ∙ s (p + l) (omega arith))

  solution_from : (x : ℕ → ℕ) → Solution p q a x → ((l : ℕ) → l < k → value (v (p + l)) q x ≡ pos (x (q + l))) → Solution (p + k) (q + k) v x
  solution_from x s f i l =
      elim (split i p) [
        | inl h ↦ value_map x i h ∙ s i h
        | inr h ↦
            let r : p + (i - p) ≡ i = omega arith in
            rw r at (value_own x (i - p) (omega arith) ∙ zero_less _ _ (f (i - p) (omega arith)))
      ]

  -- ---- where no further unknown is below 0

  module _ (never : NeverBelow p q k a v) where
    pub with_map : (x : ℕ → ℕ) → Same q (with p q v x) x
    with_map x j l = rw (lt-ltb j q l)

    with_further : (x : ℕ → ℕ) → Solution p q a x → (l : ℕ) → l < k → pos (with p q v x (q + l)) ≡ value (v (p + l)) q x
    with_further x s l h =
        let r : q + l - q ≡ l = omega arith in
        rw (le-ltb (q + l) q (omega arith), r) (pos-nat_abs (value (v (p + l)) q x) (yes_non_neg (never x s l h)))

    pub with_solution : (x : ℕ → ℕ) → Solution p q a x → Solution (p + k) (q + k) v (with p q v x)
    with_solution x s =
        solution_from (with p q v x) (solution_same p q a (λ j l. sym (with_map x j l)) s)
        (λ l h. value_same (v (p + l)) q (with_map x) ∙ sym (with_further x s l h))

    -- of two solutions of the extended map the one is at or below the other where its first q places are
    pub below_all : (s t : ℕ → ℕ) → Solution (p + k) (q + k) v s → Solution (p + k) (q + k) v t → AtOrBelow q s t → AtOrBelow (q + k) s t
    below_all s t hs ht b j l =
        elim (split j q) [
          | inl h ↦ b j h
          | inr h ↦
              let r : q + (j - q) ≡ j = omega arith in
              rw r at (further (j - q) (omega arith))
        ]
      where
        further : (n : ℕ) → n < k → s (q + n) ≤ t (q + n)
        further n nk =
            let rest = never (λ i. t i - s i) (rest_solves p q a s t b (solution_map s hs) (solution_map t ht)) n nk in
            let sum = value_sum (v (p + n)) q s (λ i. t i - s i) t (λ i h. omega (arith, b i h)) in
            let x = solution_further s hs n nk in
            let y = solution_further t ht n nk in
            omega (integers, rest, sum, x, y, sum_is (value (v (p + n)) q s) (value (v (p + n)) q (λ i. t i - s i)))

    -- so two that agree there are the same
    pub same_all : (s t : ℕ → ℕ) → Solution (p + k) (q + k) v s → Solution (p + k) (q + k) v t → Same q s t → Same (q + k) s t
    same_all s t hs ht e j l =
        let one = below_all s t hs ht (λ i h. omega (arith, e i h)) j l in
        let two = below_all t s ht hs (λ i h. omega (arith, e i h)) j l in
        omega (arith, one, two)

    zero_solves : Solution (p + k) (q + k) v (λ j. 0)
    unfolding value
    zero_solves i l = inner_zero (q + k) (v i) (λ j. pos 0) (λ j h. refl)

    nonzero_all : (s : ℕ → ℕ) → Solution (p + k) (q + k) v s → Nonzero (q + k) s → Nonzero q s
    nonzero_all s hs (j, l, some) =
        elim (differ q s (λ i. 0)) [
          | inl none ↦ absurd (omega (arith, some, below_all s (λ i. 0) hs zero_solves (λ i h. omega (arith, none i h)) j l))
          | inr (i, h, ne) ↦ (i, h, omega (arith, ne))
        ]

    -- ---- minimal solutions

    -- those of the extended map are those of the map, read up to place q
    pub loop_map : (t : ℕ → ℕ) → Loop (p + k) (q + k) v t → Loop p q a t
    loop_map t m =
        minimal_from
        (record { solution = solution_map t solves; admitted = nonzero_all t solves m.holds.admitted })
        (λ s w b j l.
        let up = with_solution s w.solution in
        let (i, h, some) = w.admitted in
        let under : AtOrBelow q (with p q v s) t = λ n g. omega (arith, with_map s n g, b n g) in
        let e = least m (with p q v s) (record { solution = up; admitted = (i, omega arith, omega (arith, with_map s i h, some)) })
        (below_all (with p q v s) t up solves under) in
        sym (with_map s j l) ∙ e j (omega arith))
      where
        solves : Solution (p + k) (q + k) v t
        solves = m.holds.solution

    -- and those of the map with the further unknowns beside them
    pub map_loop : (t : ℕ → ℕ) → Loop p q a t → Loop (p + k) (q + k) v (with p q v t)
    map_loop t m =
        minimal_from
        (record { solution = solves; admitted = let (i, h, some) = m.holds.admitted in (i, omega arith, omega (arith, with_map t i h, some)) })
        (λ s w b.
        same_all s (with p q v t) w.solution solves (λ j l.
        least m s (record { solution = solution_map s w.solution; admitted = nonzero_all s w.solution w.admitted })
        (λ i h. omega (arith, b i (omega arith), with_map t i h)) j l
        ∙ sym (with_map t j l)))
      where
        solves : Solution (p + k) (q + k) v (with p q v t)
        solves = with_solution t m.holds.solution

    -- a solution of the extended map has the further unknowns beside it
    pub with_same : (t : ℕ → ℕ) → Solution (p + k) (q + k) v t → Same (q + k) (with p q v t) t
    with_same t s = same_all (with p q v t) t (with_solution t (solution_map t s)) s (with_map t)
