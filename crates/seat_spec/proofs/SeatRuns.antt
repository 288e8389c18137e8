-- Theorems about what specs/SeatRuns.antt defines. Assumes nothing.
use Rattle.std.proofs.Common.{◌∙◌, ap, inl, inr, arith}
use Rattle.std.specs.Prelude.{◌≡◌, refl, Bool, false, true, List, [], suc, ℕ, eqb, ℤ}
use Rattle.std.proofs.Math.Path.{subst, sym}
use Rattle.definitions.specs.Answers.{Answer, Check, ◌then◌, complete, go, paused, refuse, refused, started}
use Rattle.definitions.specs.Calls.{machine, machine_from, resume, resume_from, start, start_from, step_from}
use Rattle.definitions.specs.Input.{alone, bound_of, map_of, system_of}
use Rattle.definitions.specs.Machine.{Outcome, checked, walk}
use Rattle.definitions.specs.Refusals.{lower_checks, resume_checks, resume_from_checks, start_checks}
use Rattle.definitions.specs.Step.{step}
use Rattle.definitions.specs.System.{MinimalFrom, MinimalSolution}
use Rattle.definitions.specs.Tables.{State}
use Rattle.laws.proofs.CheckLaws.{check_cases}
use Rattle.laws.proofs.RefusalLaws.{lower_renders, start_renders}
use Rattle.theorems.specs.CallAnswers.{Ruled, started_goes}
use Rattle.theorems.specs.Demands.{FirstDemand, Lists, ListsFrom}
use Rattle.theorems.proofs.Proved.{first_demand, second_demand}
use Rattle.theorems.specs.Listed.{Exactly}
use Rattle.theorems.specs.LowerFirst.{LongerFrom}
use Rattle.theorems.specs.LowerRun as from
use Rattle.theorems.specs.LowerRun.{RunFrom}
use Rattle.theorems.specs.Run.{Longer, Run, aim_of, continued, relisted, started_units}
use Rattle.theorems.proofs.Run.{run_handed, run_sound, sound_resumes}
use Rattle.theorems.specs.CallTerms.{from_terms, plain_terms}
use Rattle.theorems.specs.Untouched.{Marked, Untouched}
use Rattle.theorems.proofs.Untouched.{untouched}
use Rattle.seat_spec.proofs.Office.{goes_checked, seat_core, seat_core_from}
use Rattle.seat_spec.specs.Training.{seat_lower_checks, seat_machine, seat_machine_from, seat_resume, seat_resume_checks, seat_resume_from}
use Rattle.seat_spec.specs.Training.{seat_resume_from_checks, seat_start, seat_start_checks, seat_start_from}
use Rattle.seat_spec.specs.TrainingRules.{renumber, renumbered}
use Rattle.seat_spec.proofs.TrainingRules.{seat_lower_renders, seat_resume_from_renders, seat_resume_renders, seat_resumes}
use Rattle.seat_spec.proofs.TrainingRules.{seat_resumes_from, seat_search_lem, seat_search_from_lem, seat_search_from_renders, seat_search_renders}
use Rattle.seat_spec.specs.TrainingRules.{seat_first, seat_resume_from_rules, seat_resume_rules}
use Rattle.seat_spec.proofs.TrainingRules.{seat_start_renders, seat_starts, seat_starts_from}
use Rattle.seat_spec.specs.TrainingRules.{seat_search_from_rules, seat_search_rules}
use Rattle.seat_spec.proofs.TrainingRules.{walk_renumbered}
use Rattle.seat_spec.specs.SeatRuns.{SeatRun, SeatRunFrom, begun, begun_from, i, lent, lent_from, lent_second, number_of, resumed, resumed_from, seat_map}

-- ---- 24 for 12, and back

complete_back : (a : Answer) → renumber a ≡ complete → a ≡ complete
complete_back started e = e
complete_back complete e = e
complete_back paused e = e
complete_back (refused n values) e = absurd (let z : ◌≡◌ {A = ℕ} 0 1 = cc in omega arith)

full_back : (a : Answer) → renumber a ≡ refused 11 [] → a ≡ refused 11 []
full_back started e = e
full_back complete e = e
full_back paused e = e
full_back (refused n values) e = by (eqb n 12) refl e
  where
    by : (b : Bool) → eqb n 12 ≡ b → renumber (refused n values) ≡ refused 11 [] → refused n values ≡ refused 11 []
    by true is f = absurd (let z : 24 ≡ 11 = rw is at (ap number_of f) in omega arith)
    by false is f = rw is at f

-- ---- the seat's checks are its own and the core's

split_goes : (a b c d : Check) → (a then b then c then d) ≡ go → ((a then b then c) ≡ go) × ((a then b then d) ≡ go)
unfolding ◌then◌
split_goes (refuse n values) b c d e = absurd (let z : ◌≡◌ {A = ℕ} 0 1 = cc in omega arith)
split_goes go (refuse n values) c d e = absurd (let z : ◌≡◌ {A = ℕ} 0 1 = cc in omega arith)
split_goes go go (refuse n values) d e = absurd (let z : ◌≡◌ {A = ℕ} 0 1 = cc in omega arith)
split_goes go go go d e = (refl, e)

join_goes : (a b c d : Check) → (a then b then c) ≡ go → (a then b then d) ≡ go → (a then b then c then d) ≡ go
unfolding ◌then◌
join_goes (refuse n values) b c d e f = e
join_goes go (refuse n values) c d e f = e
join_goes go go (refuse n values) d e f = e
join_goes go go go d e f = f

refused_state : {S : Type 0} (c : Check) (s : S) (work : S → Outcome S) (n : ℕ) (values : List ℕ) → c ≡ refuse n values
    → checked c s work ≡ record { answer = refused n values; state = s }
unfolding checked
refused_state c s work n values e = rw e

module _ (p q : ℕ) (coefs : List ℤ) where
  -- the first demand of the core's calls
  first : FirstDemand (machine (i p q coefs)) (plain_terms (i p q coefs))
  first = (first_demand.plain (i p q coefs)).calls

  first_goes : (s : State) → seat_resume_checks (i p q coefs) s ≡ go → seat_first (i p q coefs) ≡ go
  unfolding seat_resume_checks
  first_goes s e = (split_goes _ _ _ _ e).0

  both_go : (s : State) → seat_first (i p q coefs) ≡ go → resume_checks (i p q coefs) s ≡ go → seat_resume_checks (i p q coefs) s ≡ go
  unfolding seat_resume_checks resume_checks
  both_go s e f = join_goes _ _ _ _ e f

  -- a call of the seat is the core's, with 24 for 12
  is_core : seat_first (i p q coefs) ≡ go → (n : ℕ) (s : State) → seat_resume n (i p q coefs) s ≡ renumbered (resume n (i p q coefs) s)
  is_core e n s = seat_resumes p q coefs n s ∙ goes_checked (seat_first (i p q coefs)) s _ e

  core_state : seat_first (i p q coefs) ≡ go → (n : ℕ) (s : State) → (seat_resume n (i p q coefs) s).state ≡ (resume n (i p q coefs) s).state
  core_state e n s = ap (λ o. o.state) (is_core e n s)

  -- ---- plain runs

  -- the run is one of the core's
  pub seat_run : {s : State} → SeatRun p q coefs s → (seat_first (i p q coefs) ≡ go) × Run (i p q coefs) (aim_of alone) s
  seat_run (begun s e) =
      let c : (checked (seat_first (i p q coefs)) s (start (i p q coefs))).answer ≡ started = rw (seat_starts p q coefs s) at e in
      let (f, w) = started_goes (seat_first (i p q coefs)) s (start (i p q coefs)) c in
      let is : seat_start (i p q coefs) s ≡ start (i p q coefs) s = seat_starts p q coefs s ∙ w in
      (f, subst (λ o. Run (i p q coefs) (aim_of alone) o.state) (sym is) (started_units s (ap (λ o. o.answer) (sym is) ∙ e)))
  seat_run (resumed {s = s} r budget) =
      let (f, c) = seat_run r in (f, subst (λ t. Run (i p q coefs) (aim_of alone) t) (sym (core_state f budget s)) (continued c budget))
  seat_run (lent {s = s} r list same) = let (f, c) = seat_run r in (f, relisted c list same)

  pub seat_lists : (s : State) → SeatRun p q coefs s → Lists (i p q coefs) s
  seat_lists s r = second_demand.lists (i p q coefs) s (seat_run r).1

  pub seat_goes : (s : State) → SeatRun p q coefs s → seat_resume_checks (i p q coefs) s ≡ go
  seat_goes s r = let (f, c) = seat_run r in both_go s f (sound_resumes (i p q coefs) (aim_of alone) (run_handed (i p q coefs) c) (run_sound (i p q coefs) c))

  pub seat_finished : (s : State) → SeatRun p q coefs s → (budget : ℕ) → (seat_resume budget (i p q coefs) s).answer ≡ complete
      → Exactly q (MinimalSolution (map_of (i p q coefs))) (seat_resume budget (i p q coefs) s).state.list (seat_resume budget (i p q coefs) s).state.run.found
  seat_finished s r budget e =
      let is = is_core (seat_run r).0 budget s in
      subst (λ t. Exactly q (MinimalSolution (map_of (i p q coefs))) t.list t.run.found) (ap (λ o. o.state) (sym is))
      ((seat_lists s r).finished budget (complete_back (resume budget (i p q coefs) s).answer (ap (λ o. o.answer) (sym is) ∙ e)))

  ruled : Ruled (seat_machine (i p q coefs)) (seat_resume_rules (i p q coefs)) (seat_search_rules (system_of (i p q coefs)))
  ruled = record { before_renders = seat_resume_renders (i p q coefs); within_renders = seat_search_renders (system_of (i p q coefs)) }

  -- what a call that was let go on leaves is let go on again
  pub seat_left_goes : (budget : ℕ) (s : State) → seat_resume_checks (i p q coefs) s ≡ go
      → seat_resume_checks (i p q coefs) (seat_resume budget (i p q coefs) s).state ≡ go
  seat_left_goes budget s e =
      let f = first_goes s e in
      rw (core_state f budget s) (both_go (resume budget (i p q coefs) s).state f (first.goes_on budget s (seat_core p q coefs s e)))

  pub seat_longer : (budget : ℕ) (s : State) → seat_resume_checks (i p q coefs) s ≡ go → (seat_resume budget (i p q coefs) s).answer ≡ refused 11 []
      → (u : State)
      → Longer (system_of (i p q coefs)) (seat_resume budget (i p q coefs) s).state u → (more : ℕ) → seat_resume (suc more) (i p q coefs) u
      ≡ walk more (seat_machine (i p q coefs)) (step (system_of (i p q coefs)) u)
  seat_longer budget s e a u l more =
      let f = first_goes s e in
      let is = is_core f budget s in
      let b : (resume budget (i p q coefs) s).answer ≡ refused 11 [] = full_back (resume budget (i p q coefs) s).answer (ap (λ o. o.answer) (sym is) ∙ a) in
      let lent : Longer (system_of (i p q coefs)) (resume budget (i p q coefs) s).state u =
      subst (λ t. Longer (system_of (i p q coefs)) t u) (core_state f budget s) l in
      is_core f (suc more) u ∙ ap renumbered (first.longer budget s (seat_core p q coefs s e) b u lent more)
      ∙ sym (walk_renumbered (seat_machine (i p q coefs)) (machine (i p q coefs)) (λ t. refl) (λ t. refl) (seat_search_lem (system_of (i p q coefs)))
      (λ t. refl) more (step (system_of (i p q coefs)) u))

  -- each row carries its marks
  pub seat_marked : (budget : ℕ) (s : State) → seat_resume_checks (i p q coefs) s ≡ go → Marked q (seat_resume budget (i p q coefs) s).state
  seat_marked budget s e =
      subst (Marked q) (sym (core_state (first_goes s e) budget s)) (first.marked budget s (seat_core p q coefs s e))

  pub seat_start_marked : (s : State) → seat_start_checks (i p q coefs) s ≡ go → Marked q (seat_start (i p q coefs) s).state
  unfolding seat_start
  seat_start_marked s e =
      let (a, (b, (c, (d, (f, (h, u)))))) = (seat_start_renders (i p q coefs) s).goes e in
      let goes : start_checks (i p q coefs) s ≡ go = (start_renders (i p q coefs) s).silent (a, (b, (d, (f, (h, u))))) in
      subst (λ o. Marked q o.state) (first.starts s goes ∙ sym (goes_checked (seat_start_checks (i p q coefs) s) s _ e)) (first.start_marked s goes)

  -- "entries beyond them are never touched", "List rows past the found count are not touched."
  pub seat_untouched : (budget : ℕ) (s : State) → Untouched q q s (seat_resume budget (i p q coefs) s).state
  seat_untouched budget s =
      elim (check_cases (seat_first (i p q coefs))) [
        | inl f ↦ subst (λ t. Untouched q q s t) (sym (core_state f budget s)) (first.untouched budget s)
        | inr (n, values, e) ↦
            subst (λ t. Untouched q q s t) (sym (ap (λ o. o.state) (seat_resumes p q coefs budget s ∙ refused_state (seat_first (i p q coefs)) s _ n values e)))
            (untouched q q s)
      ]

  -- a refused start changes nothing lent
  pub seat_start_untouched : (s : State) → Untouched q q s (seat_start (i p q coefs) s).state
  seat_start_untouched s =
      elim (check_cases (seat_first (i p q coefs))) [
        | inl f ↦
            subst (λ o. Untouched q q s o.state) (sym (seat_starts p q coefs s ∙ goes_checked (seat_first (i p q coefs)) s _ f))
            (first.start_untouched s)
        | inr (n, values, e) ↦
            subst (λ o. Untouched q q s o.state) (sym (seat_starts p q coefs s ∙ refused_state (seat_first (i p q coefs)) s _ n values e)) (untouched q q s)
      ]

  -- ---- runs from a lower bound

  module _ (lower : List ℕ) where
    first_from : FirstDemand (machine_from lower (i p q coefs)) (from_terms lower (seat_map p q coefs))
    first_from = (first_demand.from_lower lower (seat_map p q coefs)).calls

    first_goes_from : (s : State) → seat_resume_from_checks lower (i p q coefs) s ≡ go → seat_first (i p q coefs) ≡ go
    unfolding seat_resume_from_checks
    first_goes_from s e = (split_goes _ _ _ _ e).0

    both_go_from : (s : State) → seat_first (i p q coefs) ≡ go → resume_from_checks lower (i p q coefs) s ≡ go → seat_resume_from_checks lower (i p q coefs) s
        ≡ go
    unfolding seat_resume_from_checks resume_from_checks
    both_go_from s e f = join_goes _ _ _ _ e f

    is_core_from : seat_first (i p q coefs) ≡ go → (n : ℕ) (s : State) → seat_resume_from n lower (i p q coefs) s
        ≡ renumbered (resume_from n lower (i p q coefs) s)
    is_core_from e n s = seat_resumes_from p q coefs lower n s ∙ goes_checked (seat_first (i p q coefs)) s _ e

    core_state_from : seat_first (i p q coefs) ≡ go → (n : ℕ) (s : State) → (seat_resume_from n lower (i p q coefs) s).state
        ≡ (resume_from n lower (i p q coefs) s).state
    core_state_from e n s = ap (λ o. o.state) (is_core_from e n s)

    pub seat_run_from : {s : State} → SeatRunFrom lower p q coefs s → (seat_first (i p q coefs) ≡ go) × RunFrom lower (seat_map p q coefs) s
    seat_run_from (begun_from s e) =
        let c : (checked (seat_first (i p q coefs)) s (start_from lower (i p q coefs))).answer ≡ started = rw (seat_starts_from p q coefs lower s) at e in
        let (f, w) = started_goes (seat_first (i p q coefs)) s (start_from lower (i p q coefs)) c in
        let is : seat_start_from lower (i p q coefs) s ≡ start_from lower (i p q coefs) s = seat_starts_from p q coefs lower s ∙ w in
        (f, subst (λ o. RunFrom lower (seat_map p q coefs) o.state) (sym is) (from.started_from s (ap (λ o. o.answer) (sym is) ∙ e)))
    seat_run_from (resumed_from {s = s} r budget) =
        let (f, c) = seat_run_from r in (f, subst (λ t. RunFrom lower (seat_map p q coefs) t) (sym (core_state_from f budget s)) (from.continued c budget))
    seat_run_from (lent_from {s = s} r list same) = let (f, c) = seat_run_from r in (f, from.relisted c list same)
    seat_run_from (lent_second {s = s} r second same) = let (f, c) = seat_run_from r in (f, from.relisted₂ c second same)

    pub seat_lists_from : (s : State) → SeatRunFrom lower p q coefs s → ListsFrom lower (seat_map p q coefs) s
    seat_lists_from s r = second_demand.from_lower lower (seat_map p q coefs) s (seat_run_from r).1

    pub seat_goes_from : (s : State) → SeatRunFrom lower p q coefs s → seat_resume_from_checks lower (i p q coefs) s ≡ go
    seat_goes_from s r = both_go_from s (seat_run_from r).0 (seat_lists_from s r).goes

    pub seat_finished_from : (s : State) → SeatRunFrom lower p q coefs s → (budget : ℕ) → let o =
        seat_resume_from budget lower (i p q coefs) s in o.answer ≡ complete
        → Exactly q (MinimalFrom (map_of (i p q coefs)) (bound_of lower)) o.state.list o.state.run.found
        × Exactly q (MinimalSolution (map_of (i p q coefs))) o.state.second o.state.run.found2
    seat_finished_from s r budget e =
        let is = is_core_from (seat_run_from r).0 budget s in
        subst (λ t. Exactly q (MinimalFrom (map_of (i p q coefs)) (bound_of lower)) t.list t.run.found
        × Exactly q (MinimalSolution (map_of (i p q coefs))) t.second t.run.found2) (ap (λ o. o.state) (sym is))
        ((seat_lists_from s r).finished budget (complete_back (resume_from budget lower (i p q coefs) s).answer (ap (λ o. o.answer) (sym is) ∙ e)))

    ruled_from : Ruled (seat_machine_from lower (i p q coefs)) (seat_resume_from_rules lower (i p q coefs)) (seat_search_from_rules lower (i p q coefs))
    ruled_from = record { before_renders = λ s. seat_resume_from_renders (i p q coefs) s lower; within_renders = seat_search_from_renders lower (i p q coefs) }

    pub seat_left_goes_from : (budget : ℕ) (s : State) → seat_resume_from_checks lower (i p q coefs) s ≡ go
        → seat_resume_from_checks lower (i p q coefs) (seat_resume_from budget lower (i p q coefs) s).state ≡ go
    seat_left_goes_from budget s e =
        let f = first_goes_from s e in
        rw (core_state_from f budget s)
        (both_go_from (resume_from budget lower (i p q coefs) s).state f (first_from.goes_on budget s (seat_core_from p q coefs lower s e)))

    pub seat_longer_from : (budget : ℕ) (s : State) → seat_resume_from_checks lower (i p q coefs) s ≡ go
        → (seat_resume_from budget lower (i p q coefs) s).answer ≡ refused 11 []
        → (u : State) → LongerFrom q (seat_resume_from budget lower (i p q coefs) s).state u → (more : ℕ)
        → seat_resume_from (suc more) lower (i p q coefs) u ≡ walk more (seat_machine_from lower (i p q coefs)) (step_from lower (i p q coefs) u)
    seat_longer_from budget s e a u l more =
        let f = first_goes_from s e in
        let is = is_core_from f budget s in
        let b : (resume_from budget lower (i p q coefs) s).answer ≡ refused 11 [] =
        full_back (resume_from budget lower (i p q coefs) s).answer (ap (λ o. o.answer) (sym is) ∙ a) in
        let lent : LongerFrom q (resume_from budget lower (i p q coefs) s).state u = subst (λ t. LongerFrom q t u) (core_state_from f budget s) l in
        is_core_from f (suc more) u
        ∙ ap renumbered (first_from.longer budget s (seat_core_from p q coefs lower s e) b u lent more)
        ∙ sym (walk_renumbered (seat_machine_from lower (i p q coefs)) (machine_from lower (i p q coefs)) (λ t. refl) (λ t. refl)
        (seat_search_from_lem lower (i p q coefs)) (λ t. refl) more
        (step_from lower (i p q coefs) u))

    pub seat_marked_from : (budget : ℕ) (s : State) → seat_resume_from_checks lower (i p q coefs) s ≡ go
        → Marked q (seat_resume_from budget lower (i p q coefs) s).state
    seat_marked_from budget s e =
        subst (Marked q) (sym (core_state_from (first_goes_from s e) budget s))
        (first_from.marked budget s (seat_core_from p q coefs lower s e))

    pub seat_start_marked_from : (s : State) → seat_lower_checks lower (i p q coefs) s ≡ go → Marked q (seat_start_from lower (i p q coefs) s).state
    unfolding seat_start_from
    seat_start_marked_from s e =
        let (a, (b, (c, (d, (f, (h, (x, (y, u)))))))) = (seat_lower_renders (i p q coefs) s lower).goes e in
        let goes : lower_checks lower (i p q coefs) s ≡ go = (lower_renders (i p q coefs) s lower).silent (a, (b, (d, (f, (h, (x, (y, u))))))) in
        subst (λ o. Marked q o.state) (first_from.starts s goes ∙ sym (goes_checked (seat_lower_checks lower (i p q coefs) s) s _ e))
        (first_from.start_marked s goes)

    pub seat_start_untouched_from : (s : State) → Untouched q q s (seat_start_from lower (i p q coefs) s).state
    seat_start_untouched_from s =
        elim (check_cases (seat_first (i p q coefs))) [
          | inl f ↦
              subst (λ o. Untouched q q s o.state) (sym (seat_starts_from p q coefs lower s ∙ goes_checked (seat_first (i p q coefs)) s _ f))
              (first_from.start_untouched s)
          | inr (n, values, e) ↦
              subst (λ o. Untouched q q s o.state) (sym (seat_starts_from p q coefs lower s ∙ refused_state (seat_first (i p q coefs)) s _ n values e))
              (untouched q q s)
        ]

    pub seat_untouched_from : (budget : ℕ) (s : State) → Untouched q q s (seat_resume_from budget lower (i p q coefs) s).state
    seat_untouched_from budget s =
        elim (check_cases (seat_first (i p q coefs))) [
          | inl f ↦ subst (λ t. Untouched q q s t) (sym (core_state_from f budget s)) (first_from.untouched budget s)
          | inr (n, values, e) ↦
              subst (λ t. Untouched q q s t)
              (sym (ap (λ o. o.state) (seat_resumes_from p q coefs lower budget s ∙ refused_state (seat_first (i p q coefs)) s _ n values e)))
              (untouched q q s)
        ]
