-- Theorems about what specs/SidesRuns.antt defines. Assumes nothing.
use Rattle.std.specs.Prelude.{◌≡◌, List, ltb, ℤ, pos, negsuc, neg_ℤ, nat_abs, get_or, length}
use Rattle.std.proofs.Math.Path.{refl}
use Rattle.std.proofs.Common.{sym, ◌∙◌, inl, inr, nltb→le}
use Rattle.std.proofs.Math.Bool.{false}
use Prim.Native.Nat.{ℕ, zero, suc, ◌+◌, ◌*◌, ◌-◌, ◌≤◌, ◌<◌}
use Rattle.std.proofs.Math.Decide.{ℕ_discrete}
use native.Mathlib.Omega.{arith}
use Rattle.std.proofs.Math.Dec.{eqb, eqb→eq, eqb_refl, not_T}
use Rattle.linear.proofs.Cases.{split}
use Rattle.linear.specs.Combinations.{Enumerates}
use Rattle.linear.specs.Differences.{down_neg, integers, up_neg}
use Rattle.linear.proofs.Differences.{sum_is}
use Rattle.linear.proofs.RightSides.{Extends}
use Rattle.linear.proofs.SystemLaws.{value_sum}
use Rattle.linear.specs.Systems.{SolutionIn, value}
use Rattle.linear.specs.Tuples.{AtOrBelow}
use Rattle.definitions.specs.Answers.{complete, go, refuse, refuse_first, refuse_if, started}
use Rattle.definitions.specs.Input.{bound_of}
use Rattle.definitions.specs.Refusals.{check15}
use Rattle.definitions.specs.System.{extend_to}
use Rattle.definitions.specs.Tables.{State, at}
use Rattle.laws.proofs.AnswerLaws.{refuse_if_go, then_go}
use Rattle.laws.proofs.Extended.{extends}
use Rattle.laws.proofs.TableLaws.{row_before}
use Rattle.theorems.proofs.Series.{unchanged_leaves}
use Rattle.theorems.specs.Series.{Lending, meanwhile}
use Rattle.engine_spec.specs.Beside.{coefficient_limit, most_columns}
use Rattle.engine_spec.specs.Calls.{check1, check2, check3, check4, check7, checked, resume, resume_checks}
use Rattle.engine_spec.proofs.CallRules.{refused_checked}
use Rattle.engine_spec.specs.Engine.{Work, basis_row, system_of}
use Rattle.engine_spec.specs.Equations.{LoopInside}
use Rattle.engine_spec.specs.Kinds.{BothLists}
use Rattle.engine_spec.proofs.KindsTheorems.{both_lists, bound_list, right_sides_capped}
use Rattle.engine_spec.proofs.Own.{own_calls, shape_from}
use Rattle.engine_spec.specs.Promise.{Startable, after_begin}
use Rattle.engine_spec.proofs.Promise.{false_not, first_silent, in_range, passes, roomy, started_goes, under_complete}
use Rattle.engine_spec.specs.Promises.{map_of}
use Rattle.engine_spec.specs.Sides.{MeetsFrom, less_to}
use Rattle.engine_spec.proofs.Sides.{less_entry, minimal_as}
use Rattle.engine_spec.specs.Stage.{row}
use Rattle.engine_spec.specs.StartSides.{side_at, sides_checks, sides_system, start_sides}
use Rattle.engine_spec.specs.SidesRuns.{Above, SidesLists, SidesRun, working}

-- ---- what the checks say

nat_abs_neg : (z : ℤ) → nat_abs (neg_ℤ z) ≡ nat_abs z
nat_abs_neg (pos zero) = refl
nat_abs_neg (pos (suc n)) = refl
nat_abs_neg (negsuc n) = refl

module _ (p q : ℕ) (coefs rights : List ℤ) (lower : List ℕ) where
  module _ (numbers : length coefs ≡ p * q) (small : (k : ℕ) → k < p * q → nat_abs (get_or coefs k (pos 0)) ≤ coefficient_limit)
      (sides : (i : ℕ) → i < p → nat_abs (side_at q coefs rights lower i) ≤ coefficient_limit) where
    x : Extends p q (system_of q coefs) (λ i. get_or (less_to p q coefs rights (bound_of lower)) i (pos 0)) (system_of (suc q) (working p q coefs rights lower))
    x = extends (map_of p q coefs) (less_to p q coefs rights (bound_of lower)) numbers

    entry_range : (i j : ℕ) → i < p → j < suc q → nat_abs (system_of (suc q) (working p q coefs rights lower) i j) ≤ coefficient_limit
    entry_range i zero l k = rw (x.first i l, nat_abs_neg _, less_entry p q coefs rights (bound_of lower) i l) (unfold side_at in sides i l)
    entry_range i (suc j) l k = rw (x.others i j l (omega arith)) (small (i * q + j) (omega (arith, row_before q p i 0 j l (omega arith))))

    working_range : (n : ℕ) → n ≤ p → (k : ℕ) → k < n * suc q → nat_abs (get_or (working p q coefs rights lower) k (pos 0)) ≤ coefficient_limit
    working_range zero low k l = absurd (omega arith)
    working_range (suc n) low k l =
        elim (split k (n * suc q)) [
          | inl m ↦ working_range n (omega arith) k m
          | inr m ↦
              let place : k ≡ n * suc q + (k - n * suc q) = omega arith in
              rw place (entry_range n (k - n * suc q) (omega arith) (omega arith))
        ]

  pub sides_startable : (most : ℕ) (w : Work) → sides_checks p q coefs rights lower most w ≡ go
      → Startable p (suc q) (sides_system p q coefs rights lower) most w
  unfolding sides_checks sides_system
  sides_startable most w e =
      let (x₁, y₁) = then_go (check1 p) _ e in
      let (x₂, y₂) = then_go (check2 q) _ y₁ in
      let (x₃, y₃) = then_go (refuse_if (eqb q most_columns) 2) _ y₂ in
      let (x₄, y₄) = then_go (check3 p q coefs) _ y₃ in
      let (x₅, y₅) = then_go _ _ y₄ in
      let (x₆, y₆) = then_go (check4 p (suc q) most w) _ y₅ in
      let (x₇, y₇) = then_go _ _ y₆ in
      let (x₈, y₈) = then_go (check7 p q coefs) _ y₇ in
      let (x₉, y₉) = then_go _ _ y₈ in
      let (x₁₀, y₁₀) = then_go (check15 rights) _ y₉ in
      let s = shape_from p q x₁ x₂ in
      let (whole, some) = roomy p (suc q) coefs most w x₆ in
      let numbers = eqb→eq (length coefs) (p * q) (passes (eqb (length coefs) (p * q)) 3 x₄) in
      record {
        equations = (s.p_some, s.p_few);
        unknowns = (omega arith, narrow s.q_few (refuse_if_go (eqb q most_columns) 2 x₃));
        numbers = whole;
        some = some;
        range = working_range numbers (in_range p q coefs most w x₈) (within y₁₀) p (omega arith);
      }
    where
      narrow : q ≤ most_columns → eqb q most_columns ≡ false → suc q ≤ most_columns
      narrow l h = elim (ℕ_discrete q most_columns) [ yes e ↦ absurd (false_not (eqb q most_columns) h (rw e (eqb_refl most_columns))) | no ne ↦ omega arith ]

      within : refuse_first 35 p (λ i. ltb coefficient_limit (nat_abs (side_at q coefs rights lower i))) ≡ go → (i : ℕ) → i < p
          → nat_abs (side_at q coefs rights lower i) ≤ coefficient_limit
      within e i l =
          let v = nat_abs (side_at q coefs rights lower i) in
          nltb→le coefficient_limit v (not_T (ltb coefficient_limit v) (false_not (ltb coefficient_limit v) (first_silent 35 p _ e i l)))

  -- ---- where the bound is 0

  module _ (free : (j : ℕ) → j < q → bound_of lower j ≡ 0) where
    nothing_made : (c : ℕ → ℤ) → value c q (bound_of lower) ≡ pos 0
    nothing_made c =
        omega (
          integers,
          value_sum c q (bound_of lower) (bound_of lower) (bound_of lower) (λ j l. omega (arith, free j l)),
          sum_is (value c q (bound_of lower)) (value c q (bound_of lower)),
        )

    same_side : (i : ℕ) → i < p → get_or (less_to p q coefs rights (bound_of lower)) i (pos 0) ≡ get_or rights i (pos 0)
    same_side i l =
        let v = value (system_of q coefs i) q (bound_of lower) in
        less_entry p q coefs rights (bound_of lower) i l
        ∙ omega (integers, nothing_made (system_of q coefs i), sum_is (get_or rights i (pos 0)) (neg_ℤ v), up_neg v, down_neg v)

    extend_same : (n : ℕ) → n ≤ p → extend_to n q coefs (less_to p q coefs rights (bound_of lower)) ≡ extend_to n q coefs rights
    unfolding extend_to
    extend_same zero low = refl
    extend_same (suc n) low = rw (extend_same n (omega arith), same_side n (omega arith))

    bound_zero : sides_system p q coefs rights lower ≡ extend_to p q coefs rights
    unfolding sides_system
    bound_zero = extend_same p (omega arith)

-- ---- the promises

module _ (p q : ℕ) (coefs rights : List ℤ) (lower : List ℕ) where
  -- A whole list of the working system inside any cap, whoever made it, is both lists.
  pub sides_listed : 0 < q → length coefs ≡ p * q → (cap : ℕ) (list : List ℕ) (n : ℕ)
      → Enumerates (suc q) (LoopInside cap p (suc q) (system_of (suc q) (sides_system p q coefs rights lower))) n (at list (suc q))
      → SidesLists p q coefs rights lower list n
  unfolding sides_system
  sides_listed some numbers cap list n rows =
      record {
        loops = (both_lists cap p q some coefs (less_to p q coefs rights (bound_of lower)) numbers list n rows).at_zero;
        smallest = bound_list cap p q some coefs rights numbers (bound_of lower) list n rows;
      }

  -- Where the bound is 0, they are both lists of Job 1;
  pub both_listed : ((j : ℕ) → j < q → bound_of lower j ≡ 0) → 0 < q → length coefs ≡ p * q → (cap : ℕ) (list : List ℕ) (n : ℕ)
      → Enumerates (suc q) (LoopInside cap p (suc q) (system_of (suc q) (sides_system p q coefs rights lower))) n (at list (suc q))
      → BothLists p q coefs rights list n
  both_listed free some numbers cap list n rows =
      both_lists cap p q some coefs rights numbers list n (rw (bound_zero p q coefs rights lower free) at rows)

  -- where the right sides are 0, Job 4's list.
  pub above_listed : ((i : ℕ) → i < p → get_or rights i (pos 0) ≡ pos 0) → (list : List ℕ) (n : ℕ) → SidesLists p q coefs rights lower list n
      → Above p q coefs lower list n
  above_listed zeros list n lists =
      let f = lists.smallest in
      record {
        smallest = λ out fits.
            let x = f.smallest out fits in
            record {
              part = record { room = x.part.room; only = λ i l. minimal_as there back (x.part.only i l); once = x.part.once };
              all = λ t m. x.all t (minimal_as back there m);
            };
        empty = λ none t above s. f.empty none t above (λ i l. s i l ∙ sym (zeros i l));
      }
    where
      there : (t : ℕ → ℕ) → MeetsFrom p q (system_of q coefs) (λ i. get_or rights i (pos 0)) (bound_of lower) t
          → SolutionIn p q (system_of q coefs) (AtOrBelow q (bound_of lower)) t
      there t m = record { solution = λ i l. m.meets i l ∙ zeros i l; admitted = m.above }

      back : (t : ℕ → ℕ) → SolutionIn p q (system_of q coefs) (AtOrBelow q (bound_of lower)) t
          → MeetsFrom p q (system_of q coefs) (λ i. get_or rights i (pos 0)) (bound_of lower) t
      back t w = record { meets = λ i l. w.solution i l ∙ sym (zeros i l); above = w.admitted }

  -- What a start that is let go on leaves is such a run.
  pub sides_started : (most room : ℕ) (w : Work) → most * suc q ≤ length w.basis → room * suc q ≤ length w.stage.table
      → (start_sides p q coefs rights lower most w).answer ≡ started
      → SidesRun p q coefs rights lower most room (start_sides p q coefs rights lower most w).work
  unfolding start_sides checked
  sides_started most room w long wide e =
      let all = started_goes (sides_checks p q coefs rights lower most w) w _ e in
      rw all (after_begin most room w refl (sides_startable p q coefs rights lower most w all) long wide)

  -- A start that is refused leaves a run of document 01 as it was, whatever of its tables and record it was handed.
  pub sides_leaves : (l : Lending Work) (s : State) (n : ℕ) (values : List ℕ) (most : ℕ)
      → sides_checks p q coefs rights lower most (l.handed s) ≡ refuse n values
      → meanwhile (λ w. (start_sides p q coefs rights lower most w).work) l s ≡ s
  unfolding start_sides
  sides_leaves l s n values most e =
      unchanged_leaves (λ w. (start_sides p q coefs rights lower most w).work) l s (refused_checked _ (l.handed s) _ n values e)

  module _ (some : 0 < q) (numbers : length coefs ≡ p * q) {most room : ℕ} {w : Work} (r : SidesRun p q coefs rights lower most room w) where
    -- No continuing call of the run is refused before its first turn, where there is room for q + 1 rows in the basis.
    pub sides_go_on : suc q ≤ most → resume_checks p (suc q) most room w ≡ go
    sides_go_on = own_calls p (suc q) (sides_system p q coefs rights lower) r

    -- No row ever has more than 1 in the extra unknown.
    pub sides_inside : ((i : ℕ) → i < w.count → basis_row (suc q) w i 0 ≤ 1) × ((i : ℕ) → i < w.stage.rows → row (suc q) w.stage i 0 ≤ 1)
    unfolding sides_system
    sides_inside = (right_sides_capped p q some coefs (less_to p q coefs rights (bound_of lower)) numbers r).0

    -- Complete: the loops, and the smallest tuples that meet the right sides at or above the bound.
    pub sides_complete : (budget : ℕ) → (resume p (suc q) most room budget w).answer ≡ complete
        → let v = (resume p (suc q) most room budget w).work in SidesLists p q coefs rights lower v.basis v.count
    sides_complete budget e =
        let v = (resume p (suc q) most room budget w).work in
        sides_listed some numbers 1 v.basis v.count (under_complete 1 p (suc q) (sides_system p q coefs rights lower) r budget e)

    -- Where the bound is 0, both lists of Job 1.
    pub sides_both : ((j : ℕ) → j < q → bound_of lower j ≡ 0) → (budget : ℕ) → (resume p (suc q) most room budget w).answer ≡ complete
        → let v = (resume p (suc q) most room budget w).work in BothLists p q coefs rights v.basis v.count
    sides_both free budget e =
        let v = (resume p (suc q) most room budget w).work in
        both_listed free some numbers 1 v.basis v.count (under_complete 1 p (suc q) (sides_system p q coefs rights lower) r budget e)

    -- Where the right sides are 0, Job 4's list; an empty one means that nothing at or above the bound is a solution.
    pub sides_above : ((i : ℕ) → i < p → get_or rights i (pos 0) ≡ pos 0) → (budget : ℕ) → (resume p (suc q) most room budget w).answer ≡ complete
        → let v = (resume p (suc q) most room budget w).work in Above p q coefs lower v.basis v.count
    sides_above zeros budget e =
        let v = (resume p (suc q) most room budget w).work in above_listed zeros v.basis v.count (sides_complete budget e)
