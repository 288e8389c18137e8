-- A run from a lower bound is a plain walk into the second list and then, with what is left of the budget, a walk above the bound (document 02, Job 4). Assumes
-- nothing.
use Rattle.std.specs.Prelude.{◌≡◌, List, ℕ, zero, suc, ◌+◌, ◌-◌, ◌≤◌, ◌<◌}
use Rattle.std.proofs.Math.Path.{refl, sym, ap, subst}
use Rattle.std.proofs.Common.{◌∙◌, inl, inr}
use Rattle.std.proofs.Math.Decide.{ℕ_discrete}
use native.Mathlib.Omega.{arith}
use Rattle.definitions.specs.Answers.{Answer, Check, complete, go, paused, refuse, refused, started}
use Rattle.definitions.specs.Calls.{changed, machine_from, machine_of, search_from, settle_from, step_from}
use Rattle.definitions.specs.Input.{Input, above_system, bound_of, map_of}
use Rattle.definitions.specs.Machine.{Machine, Outcome, walk, walk_steps}
use Rattle.definitions.specs.Refusals.{search_checks}
use Rattle.definitions.specs.Step.{step}
use Rattle.definitions.specs.System.{System}
use Rattle.definitions.specs.Tables.{RunKind, State, by_walk, lower_above, lower_plain, lowered, plain_part, plain_run, whole_of}
use Rattle.laws.proofs.CheckLaws.{check_cases}
use Rattle.laws.proofs.DepthLaws.{search_depth, step_depth, with_depth}
use Rattle.laws.specs.LowerLaws.{ValidFrom}
use Rattle.laws.proofs.LowerLaws.{search_going_from, step_from_valid, step_kept}
use Rattle.laws.proofs.MachineLaws.{walk_done, walk_more, walk_paused, walk_refused, walk_settled}

-- "If the plain run pauses or is refused, that is the answer.": else the walk above the bound begins, with a budget of what is left
abbrev pub then_above : (State → Check) → List ℕ → Input → Answer → State → ℕ → Outcome State
then_above checks lower i started s left = record { answer = started; state = s }
then_above checks lower i complete s left = walk left (machine_of checks (above_system lower i)) (lowered (bound_of lower) i.q s)
then_above checks lower i paused s left = record { answer = paused; state = s }
then_above checks lower i (refused n values) s left = record { answer = refused n values; state = s }

positive : {n : ℕ} → ¬ (n ≡ 0) → 0 < n
positive {n} h = omega (arith, h)

module _ (checks : State → Check) (lower : List ℕ) (i : Input) where
  -- ---- the walk above the bound

  above_stays : (s : State) → s.run.kind ≡ lower_above → settle_from lower i s ≡ s
  unfolding settle_from
  above_stays s e = subst (λ r. changed r s.run.height lower i s ≡ s) (sym e) refl

  above_search : (s : State) → s.run.kind ≡ lower_above → search_from lower i s ≡ search_checks (above_system lower i) s
  unfolding search_from
  above_search s e = ap (λ r. by_walk r (search_checks (map_of i) (plain_part s)) (search_checks (above_system lower i) s)) e

  above_step : (s : State) → s.run.kind ≡ lower_above → step_from lower i s ≡ step (above_system lower i) s
  unfolding step_from
  above_step s e = ap (λ r. by_walk r (whole_of s.run.deepest (step (map_of i) (plain_part s))) (step (above_system lower i) s)) e

  above_done : (n : ℕ) (s : State) → s.run.kind ≡ lower_above → s.run.height ≡ 0
      → walk n (machine_from lower i) s ≡ walk n (machine_of checks (above_system lower i)) s
  above_done n s e z =
      let st = above_stays s e in
      (walk_done (machine_from lower i) s n (ap (λ t. t.run.height) st ∙ z)).0
      ∙ ap (λ (t : State). record { answer = complete; state = t }) st
      ∙ sym (walk_done (machine_of checks (above_system lower i)) s n z).0

  above_zero : (s : State) → s.run.kind ≡ lower_above → walk 0 (machine_from lower i) s ≡ walk 0 (machine_of checks (above_system lower i)) s
  above_zero s e =
      elim (ℕ_discrete s.run.height 0) [
        | yes z ↦ above_done 0 s e z
        | no nz ↦
            let st = above_stays s e in
            (walk_paused (machine_from lower i) s (rw st (positive nz))).0
            ∙ ap (λ (t : State). record { answer = paused; state = t }) st
            ∙ sym (walk_paused (machine_of checks (above_system lower i)) s (positive nz)).0
      ]

  above_turn : (n : ℕ) (s : State) → s.run.kind ≡ lower_above
      → walk n (machine_from lower i) (step (above_system lower i) s) ≡ walk n (machine_of checks (above_system lower i)) (step (above_system lower i) s)
      → walk (suc n) (machine_from lower i) s ≡ walk (suc n) (machine_of checks (above_system lower i)) s
  above_turn n s e next =
      elim (ℕ_discrete s.run.height 0) [
        | yes z ↦ above_done (suc n) s e z
        | no nz ↦ elim (check_cases (search_checks (above_system lower i) s)) [
          | inl g ↦
              let st = above_stays s e in
              (walk_more (machine_from lower i) s n (rw st (positive nz)) (ap (search_from lower i) st ∙ above_search s e ∙ g)).0
              ∙ ap (walk n (machine_from lower i)) (ap (step_from lower i) st ∙ above_step s e)
              ∙ next
              ∙ sym (walk_more (machine_of checks (above_system lower i)) s n (positive nz) g).0
          | inr (r, values, g) ↦
              let st = above_stays s e in
              (walk_refused (machine_from lower i) s n r values (rw st (positive nz)) (ap (search_from lower i) st ∙ above_search s e ∙ g)).0
              ∙ ap (λ (t : State). record { answer = refused r values; state = t }) st
              ∙ sym (walk_refused (machine_of checks (above_system lower i)) s n r values (positive nz) g).0
        ]
      ]

  pub above_walks : (n : ℕ) (s : State) → s.run.kind ≡ lower_above → walk n (machine_from lower i) s ≡ walk n (machine_of checks (above_system lower i)) s
  above_walks zero s e = above_zero s e
  above_walks (suc n) s e = above_turn n s e (above_walks n (step (above_system lower i) s) ((step_kept (above_system lower i) s).kind ∙ e))

  -- ---- the plain walk: d is the greatest sum that the run shows, t what a plain run would hold

  plain_sees : (d : ℕ) (t : State) → t.run.kind ≡ plain_run → plain_part (whole_of d t) ≡ with_depth d t
  plain_sees d t e =
      ap (λ (r : RunKind). record {
        stack = t.stack;
        list = t.list;
        second = t.second;
        run =
            record {
              kind = r;
              height = t.run.height;
              found = t.run.found;
              steps = t.run.steps;
              found2 = t.run.found2;
              steps2 = t.run.steps2;
              deepest = d;
            };
      }) (sym e)

  plain_search : (d : ℕ) (t : State) → t.run.kind ≡ plain_run → search_from lower i (whole_of d t) ≡ search_checks (map_of i) t
  unfolding search_from
  plain_search d t e = ap (search_checks (map_of i)) (plain_sees d t e) ∙ search_depth (map_of i) d t

  plain_step : (d : ℕ) (t : State) → t.run.kind ≡ plain_run → step_from lower i (whole_of d t) ≡ whole_of d (step (map_of i) t)
  unfolding step_from
  plain_step d t e = ap (λ u. whole_of d (step (map_of i) u)) (plain_sees d t e) ∙ ap (whole_of d) (step_depth (map_of i) d t d)

  plain_stays : (d : ℕ) (t : State) (h : ℕ) → 0 < h → changed lower_plain h lower i (whole_of d t) ≡ whole_of d t
  plain_stays d t zero l = absurd (omega arith)
  plain_stays d t (suc h) l = refl

  changes : (d : ℕ) (t : State) → t.run.height ≡ 0 → settle_from lower i (whole_of d t) ≡ lowered (bound_of lower) i.q (whole_of d t)
  unfolding settle_from
  changes d t z = ap (λ h. changed lower_plain h lower i (whole_of d t)) z

  -- what the run comes to from what the plain walk comes to
  abbrev joined : ℕ → ℕ → State → Outcome State
  joined n d t =
      let o = walk n (machine_of checks (map_of i)) t in
      then_above checks lower i o.answer (whole_of d o.state) (n - walk_steps n (machine_of checks (map_of i)) t)

  plain_done : (n d : ℕ) (t : State) → t.run.height ≡ 0 → walk n (machine_from lower i) (whole_of d t) ≡ joined n d t
  unfolding lowered
  plain_done n d t z =
      let (o, k) = walk_done (machine_of checks (map_of i)) t n z in
      let c = changes d t z in
      let u : State = lowered (bound_of lower) i.q (whole_of d t) in
      let same : settle_from lower i u ≡ u = above_stays u refl in
      let steady : settle_from lower i (settle_from lower i (whole_of d t)) ≡ settle_from lower i (whole_of d t) = ap (settle_from lower i) c ∙ same ∙ sym c in
      let all : n - 0 ≡ n = omega arith in
      rw (o, k, all) (sym (walk_settled (machine_from lower i) (whole_of d t) steady n).0 ∙ ap (walk n (machine_from lower i)) c ∙ above_walks n u refl)

  module _ (d : ℕ) (t : State) (e : t.run.kind ≡ plain_run) (nz : ¬ (t.run.height ≡ 0)) where
    stays : settle_from lower i (whole_of d t) ≡ whole_of d t
    unfolding settle_from
    stays = plain_stays d t t.run.height (positive nz)

    plain_zero : walk 0 (machine_from lower i) (whole_of d t) ≡ joined 0 d t
    plain_zero =
        let o = (walk_paused (machine_of checks (map_of i)) t (positive nz)).0 in
        rw o ((walk_paused (machine_from lower i) (whole_of d t) (rw stays (positive nz))).0 ∙ ap (λ (u : State). record { answer = paused; state = u }) stays)

    plain_refused : (n r : ℕ) (values : List ℕ) → search_checks (map_of i) t ≡ refuse r values
        → walk (suc n) (machine_from lower i) (whole_of d t) ≡ joined (suc n) d t
    plain_refused n r values g =
        let o = (walk_refused (machine_of checks (map_of i)) t n r values (positive nz) g).0 in
        rw o
        ((walk_refused (machine_from lower i) (whole_of d t) n r values (rw stays (positive nz)) (ap (search_from lower i) stays ∙ plain_search d t e ∙ g)).0
        ∙ ap (λ (u : State). record { answer = refused r values; state = u }) stays)

    plain_more : (n : ℕ) → search_checks (map_of i) t ≡ go → walk n (machine_from lower i) (whole_of d (step (map_of i) t)) ≡ joined n d (step (map_of i) t)
        → walk (suc n) (machine_from lower i) (whole_of d t) ≡ joined (suc n) d t
    plain_more n g next =
        let (o, k) = walk_more (machine_of checks (map_of i)) t n (positive nz) g in
        let left : suc n - suc (walk_steps n (machine_of checks (map_of i)) (step (map_of i) t))
        ≡ n - walk_steps n (machine_of checks (map_of i)) (step (map_of i) t) = omega arith in
        rw (o, k, left)
        ((walk_more (machine_from lower i) (whole_of d t) n (rw stays (positive nz)) (ap (search_from lower i) stays ∙ plain_search d t e ∙ g)).0
        ∙ ap (walk n (machine_from lower i)) (ap (step_from lower i) stays ∙ plain_step d t e)
        ∙ next)

  pub two_walks : (n d : ℕ) (t : State) → t.run.kind ≡ plain_run → walk n (machine_from lower i) (whole_of d t) ≡ joined n d t
  two_walks zero d t e = elim (ℕ_discrete t.run.height 0) [ yes z ↦ plain_done 0 d t z | no nz ↦ plain_zero d t e nz ]
  two_walks (suc n) d t e = turn (two_walks n d (step (map_of i) t) ((step_kept (map_of i) t).kind ∙ e))
    where
      turn : walk n (machine_from lower i) (whole_of d (step (map_of i) t)) ≡ joined n d (step (map_of i) t)
          → walk (suc n) (machine_from lower i) (whole_of d t) ≡ joined (suc n) d t
      turn next =
          elim (ℕ_discrete t.run.height 0) [
            | yes z ↦ plain_done (suc n) d t z
            | no nz ↦ elim (check_cases (search_checks (map_of i) t)) [
              | inl g ↦ plain_more d t e nz n g next
              | inr (r, values, g) ↦ plain_refused d t e nz n r values g
            ]
          ]

  -- A continuing call of such a run, once its checks have let it go on: from the plain walk through both, else through the walk above the bound.
  pub from_plain : (n : ℕ) (s : State) → s.run.kind ≡ lower_plain → walk n (machine_from lower i) s ≡ joined n s.run.deepest (plain_part s)
  from_plain n s e = ap (walk n (machine_from lower i)) (back s e) ∙ two_walks n s.run.deepest (plain_part s) refl
    where
      back : (s : State) → s.run.kind ≡ lower_plain → s ≡ whole_of s.run.deepest (plain_part s)
      back s e =
          ap (λ (r : RunKind). record {
            stack = s.stack;
            list = s.list;
            second = s.second;
            run =
                record {
                  kind = r;
                  height = s.run.height;
                  found = s.run.found;
                  steps = s.run.steps;
                  found2 = s.run.found2;
                  steps2 = s.run.steps2;
                  deepest = s.run.deepest;
                };
          }) e

-- ---- what a walk of its own keeps, for the code that makes one after the other

module _ (checks : State → Check) (m : System) where
  walk_turns : (P : State → ℕ → State → Type 0) → ((t : State) → P t 0 t)
      → ((t u : State) (k : ℕ) → 0 < t.run.height → search_checks m t ≡ go → P (step m t) k u → P t (suc k) u)
      → (n : ℕ) (t : State) → P t (walk_steps n (machine_of checks m) t) (walk n (machine_of checks m) t).state
  walk_turns P stays goes n t = by n t
    where
      done : (n : ℕ) (t : State) → t.run.height ≡ 0 → P t (walk_steps n (machine_of checks m) t) (walk n (machine_of checks m) t).state
      done n t z = let (o, k) = walk_done (machine_of checks m) t n z in rw (o, k) (stays t)

      by : (n : ℕ) (t : State) → P t (walk_steps n (machine_of checks m) t) (walk n (machine_of checks m) t).state
      by zero t =
          elim (ℕ_discrete t.run.height 0) [
            | yes z ↦ done 0 t z
            | no nz ↦ let (o, k) = walk_paused (machine_of checks m) t (positive nz) in rw (o, k) (stays t)
          ]
      by (suc n) t = turn (by n (step m t))
        where
          turn : P (step m t) (walk_steps n (machine_of checks m) (step m t)) (walk n (machine_of checks m) (step m t)).state
              → P t (walk_steps (suc n) (machine_of checks m) t) (walk (suc n) (machine_of checks m) t).state
          turn next =
              elim (ℕ_discrete t.run.height 0) [
                | yes z ↦ done (suc n) t z
                | no nz ↦ elim (check_cases (search_checks m t)) [
                  | inl g ↦ let (o, k) = walk_more (machine_of checks m) t n (positive nz) g in rw (o, k) (goes t _ _ (positive nz) g next)
                  | inr (r, values, g) ↦ let (o, k) = walk_refused (machine_of checks m) t n r values (positive nz) g in rw (o, k) (stays t)
                ]
              ]

  -- the record counts its steps, and keeps the kind of the run
  pub walk_counts : (n : ℕ) (t : State)
      → ((walk n (machine_of checks m) t).state.run.steps ≡ t.run.steps + walk_steps n (machine_of checks m) t)
      × ((walk n (machine_of checks m) t).state.run.kind ≡ t.run.kind)
  walk_counts =
      walk_turns (λ t k u. (u.run.steps ≡ t.run.steps + k) × (u.run.kind ≡ t.run.kind)) (λ t. (omega arith, refl))
      (λ t u k h g (e, f). (omega (arith, e, (step_kept m t).counted), f ∙ (step_kept m t).kind))

-- no more steps than the budget
pub walk_steps_few : {S : Type 0} (k : Machine S) (n : ℕ) (s : S) → walk_steps n k s ≤ n
walk_steps_few k zero s = few
  where
    few : walk_steps 0 k s ≤ 0
    few = unfold walk_steps in omega arith
walk_steps_few k (suc n) s =
    elim (ℕ_discrete (k.height (k.settle s)) 0) [
      | yes z ↦ omega (arith, (walk_done k s (suc n) z).1)
      | no nz ↦ elim (check_cases (k.refusals (k.settle s))) [
        | inl g ↦ omega (arith, (walk_more k s n (positive nz) g).1, walk_steps_few k n (k.step (k.settle s)))
        | inr (r, values, g) ↦ omega (arith, (walk_refused k s n r values (positive nz) g).1)
      ]
    ]

-- the plain walk leaves the run in order, so that the walk above the bound may begin
pub plain_walk_valid : (checks : State → Check) (lower : List ℕ) (i : Input) (d n : ℕ) (t : State) → t.run.kind ≡ plain_run → ValidFrom lower i (whole_of d t)
    → ValidFrom lower i (whole_of d (walk n (machine_of checks (map_of i)) t).state)
plain_walk_valid checks lower i d n t e v =
    walk_turns checks (map_of i) (λ t k u. t.run.kind ≡ plain_run → ValidFrom lower i (whole_of d t) → ValidFrom lower i (whole_of d u)) (λ t e v. v)
    (λ t u k h g next e v.
    let c : search_from lower i (whole_of d t) ≡ go = plain_search checks lower i d t e ∙ g in
    let w = step_from_valid lower i (whole_of d t) v (search_going_from lower i (whole_of d t) v h c) in
    next ((step_kept (map_of i) t).kind ∙ e) (subst (ValidFrom lower i) (plain_step checks lower i d t e) w)) n t e v
