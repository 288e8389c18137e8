-- The test of the profile says the profile; where a column of it puts and takes; and the solutions of a map in the profile are the circulations of
-- its graph. Assumes nothing.
use Rattle.std.specs.Prelude.{◌≡◌, refl, ◌≢◌, ◌⊎◌, Bool, true, false, ◌||◌, ℕ, zero, suc, ◌≤◌, ◌<◌, T, ℤ, negsuc, ◌+ℤ◌, ◌*ℤ◌}
use Rattle.std.proofs.Math.Path.{sym, ap}
use Rattle.std.proofs.Common.{◌∙◌, arith, le→leb}
use Rattle.std.proofs.Math.Logic.{inl, inr}
use Rattle.std.proofs.Math.Decide.{ℕ_discrete}
use Rattle.std.proofs.Math.Dec.{eqb, eqb→eq, leb→le}
use Rattle.std.proofs.Math.IntN.{pos}
use borrow.Author.Tests.{eq-eqb, ne_eqb}
use Rattle.linear.proofs.Cases.{order, split}
use Rattle.linear.specs.Differences.{down_mul, integers, up_mul}
use Rattle.linear.proofs.Differences.{sum_is}
use Rattle.linear.specs.Sums.{sum_to}
use Rattle.linear.proofs.Sums.{sum_add, sum_cong}
use Rattle.linear.specs.Systems.{Solution, SolutionIn, inner, value}
use Rattle.linear.proofs.TestLaws.{T-dec, all_at, all_from, and_both, and_parts, count_at, count_step}
use Rattle.linear.specs.Tests.{all_to, count_to, number}
use Rattle.linear.proofs.TupleLaws.{total_same}
use Rattle.linear.specs.Tuples.{Minimal, Nonzero, total}
use Rattle.definitions.specs.System.{MinimalSolution, System, coef, column, is_zero}
use Rattle.single_spec.specs.First.{find_to}
use Rattle.single_spec.specs.Graph.{Circulation, gate, flow}
use Rattle.single_spec.specs.Profile.{Idle, InProfile, ArcColumn, SingleFile, idle, in_profile, is_minus_one, is_one, arc, graph, head_of, tail_of, node_of}
use Rattle.single_spec.proofs.FirstLaws.{eqb_from, first_is}
use Rattle.single_spec.proofs.Visits.{count_once}

-- ---- what the tests of one number say

is_zero_lem : (z : ℤ) → T (is_zero z) → z ≡ pos 0
is_zero_lem (pos n) h = ap pos (eqb→eq n 0 h)
is_zero_lem (negsuc n) h = absurd h

is_one_lem : (z : ℤ) → T (is_one z) → z ≡ pos 1
is_one_lem (pos n) h = ap pos (eqb→eq n 1 h)
is_one_lem (negsuc n) h = absurd h

is_minus_one_lem : (z : ℤ) → T (is_minus_one z) → z ≡ negsuc 0
is_minus_one_lem (pos n) h = absurd h
is_minus_one_lem (negsuc n) h = ap negsuc (eqb→eq n 0 h)

zero_one : pos 0 ≢ pos 1
zero_one e = omega (integers)

zero_minus_one : pos 0 ≢ negsuc 0
zero_minus_one e = omega (integers)

one_minus_one : pos 1 ≢ negsuc 0
one_minus_one e = omega (integers)

-- ---- the test says the profile

or_three : (a b c : Bool) → T (a || (b || c)) → T a ⊎ (T b ⊎ T c)
or_three true b c h = inl tt
or_three false true c h = inr (inl tt)
or_three false false c h = inr (inr h)

or_first : (a b c : Bool) → T a → T (a || (b || c))
or_first true b c h = tt
or_first false b c h = absurd h

or_second : (a b c : Bool) → T b → T (a || (b || c))
or_second true b c h = tt
or_second false true c h = tt
or_second false false c h = absurd h

or_third : (a b c : Bool) → T c → T (a || (b || c))
or_third true b c h = tt
or_third false true c h = tt
or_third false false c h = h

-- where at most one place is counted, two that count are one
one_place : (n : ℕ) (f : ℕ → Bool) → count_to n f ≤ 1 → (a b : ℕ) → a < n → b < n → T (f a) → T (f b) → a ≡ b
one_place n f h a b la lb ta tb =
    elim (order a b) [
      | inl l ↦ absurd (omega (arith, count_step f a b l ta, count_step f b n lb tb))
      | inr (inl e) ↦ e
      | inr (inr l) ↦ absurd (omega (arith, count_step f b a l tb, count_step f a n la ta))
    ]

module _ (p : ℕ) (c : ℕ → ℤ) where
  abbrev ones : ℕ
  ones = count_to p (λ i. is_one (c i))

  abbrev minus_ones : ℕ
  minus_ones = count_to p (λ i. is_minus_one (c i))

  abbrev Known : Type 0
  Known = (i : ℕ) → i < p → T (is_zero (c i)) ⊎ (T (is_one (c i)) ⊎ T (is_minus_one (c i)))

  none_idle : Known → ones ≡ 0 → minus_ones ≡ 0 → Idle p c
  none_idle known a b i l =
      elim (known i l) [
        | inl h ↦ is_zero_lem (c i) h
        | inr (inl h) ↦ absurd (omega (arith, count_step (λ i. is_one (c i)) i p l h))
        | inr (inr h) ↦ absurd (omega (arith, count_step (λ i. is_minus_one (c i)) i p l h))
      ]

  one_arc : Known → ones ≡ 1 → minus_ones ≡ 1 → InProfile p c
  one_arc known a b =
      let (i, li, ti, ci) = count_at (λ i. is_one (c i)) p 0 (omega arith) in
      let (k, lk, tk, ck) = count_at (λ i. is_minus_one (c i)) p 0 (omega arith) in
      arc i k (record {
        head_node = li;
        tail_node = lk;
        one = is_one_lem (c i) ti;
        minus_one = is_minus_one_lem (c k) tk;
        otherwise = λ r l ni nk. elim (known r l) [
          | inl h ↦ is_zero_lem (c r) h
          | inr (inl h) ↦ absurd (ni (one_place p (λ i. is_one (c i)) (omega arith) r i l li h ti))
          | inr (inr h) ↦ absurd (nk (one_place p (λ i. is_minus_one (c i)) (omega arith) r k l lk h tk))
        ];
      })

  pub profile_from : T (in_profile p c) → InProfile p c
  unfolding in_profile
  profile_from h =
      let (a, h₁) = and_parts (all_to p (λ i. is_zero (c i) || (is_one (c i) || is_minus_one (c i)))) _ h in
      let (b, d) = and_parts (eqb ones minus_ones) _ h₁ in
      let known : Known = λ i l. or_three (is_zero (c i)) (is_one (c i)) (is_minus_one (c i)) (all_at p _ a i l) in
      let e = eqb→eq ones minus_ones b in
      let u = leb→le ones 1 d in
      elim (split 0 ones) [
        | inl l ↦ one_arc known (omega arith) (omega arith)
        | inr l ↦ idle (none_idle known (omega arith) (omega arith))
      ]

  test : Known → ones ≡ minus_ones → ones ≤ 1 → T (in_profile p c)
  unfolding in_profile
  test known e u =
      and_both (all_to p (λ i. is_zero (c i) || (is_one (c i) || is_minus_one (c i)))) _
      (all_from p _ (λ i l. elim (known i l) [
        | inl h ↦ or_first (is_zero (c i)) (is_one (c i)) (is_minus_one (c i)) h
        | inr (inl h) ↦ or_second (is_zero (c i)) (is_one (c i)) (is_minus_one (c i)) h
        | inr (inr h) ↦ or_third (is_zero (c i)) (is_one (c i)) (is_minus_one (c i)) h
      ]))
      (and_both (eqb ones minus_ones) _ (eqb_from ones minus_ones e) (le→leb ones 1 u))

  zero_tests : (i : ℕ) → c i ≡ pos 0 → T (is_zero (c i)) × (¬ (T (is_one (c i)))) × (¬ (T (is_minus_one (c i))))
  zero_tests i e = (rw e tt, λ h. zero_one (sym e ∙ is_one_lem (c i) h), λ h. zero_minus_one (sym e ∙ is_minus_one_lem (c i) h))

  count_zero : (f : ℕ → Bool) → ((i : ℕ) → i < p → ¬ (T (f i))) → count_to p f ≡ 0
  count_zero f none = elim (split 0 (count_to p f)) [ inl l ↦ (let (i, u, t, e) = count_at f p 0 l in absurd (none i u t)) | inr l ↦ omega arith ]

  -- one place counts, and no other
  count_one : (f : ℕ → Bool) (r : ℕ) → r < p → T (f r) → ((i : ℕ) → i < p → T (f i) → i ≡ r) → count_to p f ≡ 1
  count_one f r l h only =
      omega (arith, count_step f r p l h, count_once p f (λ a b u v s t. omega (arith, only a (omega arith) s, only b v t)))

  module _ {head tail : ℕ} (m : ArcColumn p c head tail) where
    pub only_head : (i : ℕ) → i < p → T (is_one (c i)) → i ≡ head
    only_head i l h =
        elim (ℕ_discrete i head) [
          | yes e ↦ e
          | no ni ↦ elim (ℕ_discrete i tail) [
            | yes e ↦ absurd (one_minus_one (sym (is_one_lem (c i) h) ∙ ap c e ∙ m.minus_one))
            | no nf ↦ absurd (zero_one (sym (m.otherwise i l ni nf) ∙ is_one_lem (c i) h))
          ]
        ]

    pub only_tail : (i : ℕ) → i < p → T (is_minus_one (c i)) → i ≡ tail
    only_tail i l h =
        elim (ℕ_discrete i tail) [
          | yes e ↦ e
          | no nf ↦ elim (ℕ_discrete i head) [
            | yes e ↦ absurd (one_minus_one (sym m.one ∙ ap c (sym e) ∙ is_minus_one_lem (c i) h))
            | no ni ↦ absurd (zero_minus_one (sym (m.otherwise i l ni nf) ∙ is_minus_one_lem (c i) h))
          ]
        ]

    pub at_head : T (is_one (c head))
    at_head = rw m.one tt

    pub at_tail : T (is_minus_one (c tail))
    at_tail = rw m.minus_one tt

    arc_known : Known
    arc_known i l =
        elim (ℕ_discrete i head) [
          | yes e ↦ inr (inl (rw e at_head))
          | no ni ↦ elim (ℕ_discrete i tail) [
            | yes e ↦ inr (inr (rw e at_tail))
            | no nf ↦ inl (zero_tests i (m.otherwise i l ni nf)).0
          ]
        ]

    arc_test : T (in_profile p c)
    arc_test =
        let a = count_one (λ i. is_one (c i)) head m.head_node at_head only_head in
        let b = count_one (λ i. is_minus_one (c i)) tail m.tail_node at_tail only_tail in
        test arc_known (omega arith) (omega arith)

    -- where it puts, and where it takes
    pub arc_head : find_to p (λ i. is_one (c i)) ≡ head
    arc_head =
        first_is p _ head (record {
          most = omega (arith, m.head_node);
          before = λ k l h. omega
              (arith, only_head k (omega (arith, m.head_node)) h);
          holds = λ l. at_head;
        })

    pub arc_tail : find_to p (λ i. is_minus_one (c i)) ≡ tail
    arc_tail =
        first_is p _ tail (record {
          most = omega (arith, m.tail_node);
          before = λ k l h. omega
              (arith, only_tail k (omega (arith, m.tail_node)) h);
          holds = λ l. at_tail;
        })

  idle_test : Idle p c → T (in_profile p c)
  idle_test h =
      let a = count_zero (λ i. is_one (c i)) (λ i l. (zero_tests i (h i l)).1) in
      let b = count_zero (λ i. is_minus_one (c i)) (λ i l. (zero_tests i (h i l)).2) in
      test (λ i l. inl (zero_tests i (h i l)).0) (omega arith) (omega arith)

  pub profile_to : InProfile p c → T (in_profile p c)
  profile_to (arc head tail m) = arc_test m
  profile_to (idle h) = idle_test h

  -- a column of zeros puts nowhere and takes nowhere
  pub idle_head : Idle p c → find_to p (λ i. is_one (c i)) ≡ p
  idle_head h = first_is p _ p (record { most = omega arith; before = λ k l. (zero_tests k (h k l)).1; holds = λ l. absurd (omega arith) })

  pub idle_tail : Idle p c → find_to p (λ i. is_minus_one (c i)) ≡ p
  idle_tail h = first_is p _ p (record { most = omega arith; before = λ k l. (zero_tests k (h k l)).2; holds = λ l. absurd (omega arith) })

-- ---- a coefficient is what the column puts there, less what it takes there

-- b and d say whether a column has its head and its tail at a node: its coefficient there
abbrev Coefficient : ℤ → Bool → Bool → Type 0
Coefficient z b d = z +ℤ pos (number d) ≡ pos (number b)

arc_coefficient : (p : ℕ) (c : ℕ → ℤ) (head tail : ℕ) → ArcColumn p c head tail → (i : ℕ) → i < p → Coefficient (c i) (eqb head i) (eqb tail i)
arc_coefficient p c head tail m i l =
    elim (ℕ_discrete i head) [
      | yes e ↦ rw (e, eq-eqb head head refl, ne_eqb tail head (λ g. one_minus_one (sym m.one ∙ ap c (sym g) ∙ m.minus_one)), m.one)
      | no ni ↦ elim (ℕ_discrete i tail) [
        | yes e ↦ rw (e, eq-eqb tail tail refl, ne_eqb head tail (λ g. ni (e ∙ sym g)), m.minus_one)
        | no nf ↦ rw (ne_eqb head i (λ g. ni (sym g)), ne_eqb tail i (λ g. nf (sym g)), m.otherwise i l ni nf)
      ]
    ]

idle_coefficient : (p : ℕ) (c : ℕ → ℤ) → Idle p c → (i : ℕ) → i < p → Coefficient (c i) (eqb p i) (eqb p i)
idle_coefficient p c h i l = rw (ne_eqb p i (omega arith), h i l)

-- its share of an equation
share : (z : ℤ) (b d : Bool) (k : ℕ) → Coefficient z b d → z *ℤ pos k +ℤ pos (gate d k) ≡ pos (gate b k)
share z true true k h = let e : z ≡ pos 0 = omega (integers, sum_is z (pos 1)) in rw e (omega integers)
share z true false k h = let e : z ≡ pos 1 = omega (integers, sum_is z (pos 0)) in rw e (omega integers)
share z false true k h =
    let e : z ≡ negsuc 0 = omega (integers, sum_is z (pos 1)) in
    rw e (omega (integers, sum_is (negsuc 0 *ℤ pos k) (pos k), up_mul (negsuc 0) (pos k), down_mul (negsuc 0) (pos k)))
share z false false k h = let e : z ≡ pos 0 = omega (integers, sum_is z (pos 0)) in rw e (omega integers)

-- ---- solutions are circulations

sum_pos : (q : ℕ) (t : ℕ → ℕ) → sum_to q (λ j. pos (t j)) ≡ pos (total t q)
unfolding sum_to total
sum_pos zero t = refl
sum_pos (suc q) t = rw (sum_pos q t)

pub record ArcAt (m : System) (j : ℕ) : Type 0 where
  pub head_node : head_of m j < m.p
  pub tail_node : tail_of m j < m.p
  pub one : coef m (head_of m j) j ≡ pos 1
  pub minus_one : coef m (tail_of m j) j ≡ negsuc 0

pub record IdleAt (m : System) (j : ℕ) : Type 0 where
  pub head_none : head_of m j ≡ m.p
  pub tail_none : tail_of m j ≡ m.p
  pub zeros : Idle m.p (column m j)

module _ (m : System) (profile : SingleFile m) where
  -- a column has its head and its tail at equations of the map, where its 1 and its -1 stand; or it is zeros, and both are the node that is no
  -- equation
  pub column_kinds : (j : ℕ) → j < m.q → ArcAt m j ⊎ IdleAt m j
  unfolding node_of
  column_kinds j l = go (profile j l)
    where
      go : InProfile m.p (column m j) → ArcAt m j ⊎ IdleAt m j
      go (arc head tail h) =
          let a = arc_head m.p (column m j) h in
          let b = arc_tail m.p (column m j) h in
          inl (record {
            head_node = omega (arith, h.head_node);
            tail_node = omega (arith, h.tail_node);
            one = ap (column m j) a ∙ h.one;
            minus_one = ap (column m j) b ∙ h.minus_one;
          })
      go (idle h) = inr (record { head_none = idle_head m.p (column m j) h; tail_none = idle_tail m.p (column m j) h; zeros = h })

  -- its one 1 is where it puts
  pub head_only : (i j : ℕ) → i < m.p → j < m.q → coef m i j ≡ pos 1 → head_of m j ≡ i
  unfolding node_of
  head_only i j u l e = go (profile j l)
    where
      go : InProfile m.p (column m j) → head_of m j ≡ i
      go (arc head tail h) = arc_head m.p (column m j) h ∙ sym (only_head m.p (column m j) h i u (rw e tt))
      go (idle h) = absurd (zero_one (sym (h i u) ∙ e))

  -- and its one -1 is where it takes
  pub tail_only : (i j : ℕ) → i < m.p → j < m.q → coef m i j ≡ negsuc 0 → tail_of m j ≡ i
  unfolding node_of
  tail_only i j u l e = go (profile j l)
    where
      go : InProfile m.p (column m j) → tail_of m j ≡ i
      go (arc head tail h) = arc_tail m.p (column m j) h ∙ sym (only_tail m.p (column m j) h i u (rw e tt))
      go (idle h) = absurd (zero_minus_one (sym (h i u) ∙ e))

  coefficient : (i j : ℕ) → i < m.p → j < m.q → Coefficient (coef m i j) (eqb (head_of m j) i) (eqb (tail_of m j) i)
  unfolding node_of
  coefficient i j u l = go (profile j l)
    where
      go : InProfile m.p (column m j) → Coefficient (coef m i j) (eqb (head_of m j) i) (eqb (tail_of m j) i)
      go (arc head tail h) = rw (arc_head m.p (column m j) h, arc_tail m.p (column m j) h) (arc_coefficient m.p (column m j) head tail h i u)
      go (idle h) = rw (idle_head m.p (column m j) h, idle_tail m.p (column m j) h) (idle_coefficient m.p (column m j) h i u)

  -- an equation's left side is what flows into its node, less what flows out
  pub value_flow : (x : ℕ → ℕ) (i : ℕ) → i < m.p → value (coef m i) m.q x +ℤ pos (flow m.q (tail_of m) x i) ≡ pos (flow m.q (head_of m) x i)
  unfolding value inner flow
  value_flow x i l =
      ap (λ z. sum_to m.q (λ j. coef m i j *ℤ pos (x j)) +ℤ z) (sym (sum_pos m.q (λ j. gate (eqb (tail_of m j) i) (x j))))
      ∙ sym (sum_add m.q (λ j. coef m i j *ℤ pos (x j)) (λ j. pos (gate (eqb (tail_of m j) i) (x j))))
      ∙ sum_cong m.q (λ j u. share (coef m i j) (eqb (head_of m j) i) (eqb (tail_of m j) i) (x j) (coefficient i j l u))
      ∙ sum_pos m.q (λ j. gate (eqb (head_of m j) i) (x j))

  beyond : (x : ℕ → ℕ) (i : ℕ) → m.p ≤ i → flow m.q (head_of m) x i ≡ flow m.q (tail_of m) x i
  unfolding flow
  beyond x i l = total_same _ _ m.q (λ j u. ap (λ b. gate b (x j)) (same j u))
    where
      same : (j : ℕ) → j < m.q → eqb (head_of m j) i ≡ eqb (tail_of m j) i
      same j u =
          elim (column_kinds j u) [
            | inl h ↦ rw (ne_eqb (head_of m j) i (omega (arith, h.head_node)), ne_eqb (tail_of m j) i (omega (arith, h.tail_node)))
            | inr h ↦ rw (h.head_none, h.tail_none)
          ]

  pub solution_balanced : (x : ℕ → ℕ) → Solution m.p m.q (coef m) x → (i : ℕ) → flow m.q (head_of m) x i ≡ flow m.q (tail_of m) x i
  solution_balanced x s i =
      elim (split i m.p) [
        | inl l ↦ omega (integers, s i l, value_flow x i l, sum_is (value (coef m i) m.q x) (pos (flow m.q (tail_of m) x i)))
        | inr l ↦ beyond x i l
      ]

  pub balanced_solution : (x : ℕ → ℕ) → ((i : ℕ) → flow m.q (head_of m) x i ≡ flow m.q (tail_of m) x i) → Solution m.p m.q (coef m) x
  balanced_solution x b i l = omega (integers, b i, value_flow x i l, sum_is (value (coef m i) m.q x) (pos (flow m.q (tail_of m) x i)))

  abbrev Solves : (ℕ → ℕ) → Type 0
  Solves = SolutionIn m.p m.q (coef m) (Nonzero m.q)

  circulates : (x : ℕ → ℕ) → Solves x → Circulation (graph m) x
  circulates x s = record { balanced = solution_balanced x s.solution; nonzero = s.admitted }

  solves : (x : ℕ → ℕ) → Circulation (graph m) x → Solves x
  solves x c = record { solution = balanced_solution x c.balanced; admitted = c.nonzero }

  -- so the minimal solutions are the minimal circulations
  pub minimal_circulation : {x : ℕ → ℕ} → MinimalSolution m x → Minimal m.q (Circulation (graph m)) x
  minimal_circulation {x} b = record { holds = circulates x b.holds; none_below = λ s w l. b.none_below s (solves s w) l }

  pub circulation_minimal : {x : ℕ → ℕ} → Minimal m.q (Circulation (graph m)) x → MinimalSolution m x
  circulation_minimal {x} b = record { holds = solves x b.holds; none_below = λ s w l. b.none_below s (circulates s w) l }

-- the profile is decided: a column that is not outside it is in it
pub profile_decides : (p : ℕ) (c : ℕ → ℤ) → ¬ (¬ (InProfile p c)) → InProfile p c
profile_decides p c h =
    elim (T-dec (in_profile p c)) [ inl t ↦ profile_from p c t | inr n ↦ absurd (h (λ i. n (profile_to p c i))) ]
