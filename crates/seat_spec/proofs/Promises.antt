-- Theorems about what specs/Promises.antt defines. Assumes nothing.
use Rattle.std.proofs.Common.{◌∙◌, ap, sym, arith}
use Rattle.std.specs.Prelude.{◌≡◌, refl, List, ◌∷◌, ◌≤◌, suc, zero, ℕ, ℤ}
use Rattle.definitions.specs.Answers.{Answer, complete, go, paused, refuse, started}
use Rattle.definitions.specs.Bound.{depth, step_bound}
use Rattle.definitions.specs.Calls.{machine, machine_from, resume, settle_from, start, step_from}
use Rattle.definitions.specs.Input.{Input, input_of, map_of, system_of}
use Rattle.definitions.specs.Machine.{Outcome, after, checked}
use Rattle.definitions.specs.Refusals.{step_limit}
use Rattle.definitions.specs.Step.{step}
use Rattle.definitions.specs.Tables.{State, capacity}
use Rattle.laws.proofs.LimitLaws.{step_limit_lem}
use Rattle.theorems.specs.CallAnswers.{started_goes}
use Rattle.theorems.proofs.Counts.{step_counts}
use Rattle.theorems.specs.Demands.{ThirdDemand}
use Rattle.theorems.proofs.Proved.{second_demand, third_demands}
use Rattle.theorems.proofs.LowerFirst.{settled_total, stepped_total}
use Rattle.theorems.specs.OwnCalls.{Log, Orderly, Pausing, completed, more, none, pausing}
use Rattle.theorems.specs.Series.{Lending, Series, meanwhile, own}
use Rattle.theorems.proofs.Series.{unchanged_leaves}
use Rattle.theorems.specs.Third.{Premises}
use Rattle.theorems.specs.WholeSteps.{called}
use Rattle.theorems.proofs.WholeSteps.{call_after}
use Rattle.seat_spec.proofs.Office.{call_office, call_office_from, settle_office, start_office, start_office_from, step_from_office}
use Rattle.seat_spec.proofs.SeatRuns.{seat_finished, seat_finished_from, seat_goes, seat_goes_from, seat_left_goes}
use Rattle.seat_spec.proofs.SeatRuns.{seat_left_goes_from, seat_lists, seat_lists_from, seat_longer, seat_longer_from, seat_marked, seat_marked_from}
use Rattle.seat_spec.proofs.SeatRuns.{seat_run, seat_start_marked, seat_start_marked_from, seat_start_untouched, seat_start_untouched_from, seat_untouched}
use Rattle.seat_spec.specs.SeatRuns.{seat_map}
use Rattle.seat_spec.proofs.SeatRuns.{seat_untouched_from}
use Rattle.seat_spec.specs.Training.{seat_input, seat_lower_checks, seat_machine, seat_machine_from, seat_resume, seat_resume_checks, seat_resume_from}
use Rattle.seat_spec.specs.Training.{seat_resume_from_checks, seat_start, seat_start_checks, seat_start_from, seat_steps, seat_steps_from}
use Rattle.seat_spec.specs.TrainingRules.{renumber, renumbered}
use Rattle.seat_spec.proofs.TrainingRules.{seat_lower_renders, seat_resume_from_renders, seat_resume_renders, seat_resumes}
use Rattle.seat_spec.specs.TrainingRules.{seat_first}
use Rattle.seat_spec.proofs.TrainingRules.{seat_search_from_renders, seat_search_renders, seat_start_renders, seat_starts}
use Rattle.laws.proofs.LowerLaws.{settled_once}
use Rattle.theorems.proofs.AnyRun.{Grounds, first_demand_of}
use Rattle.theorems.proofs.Deepest.{settled_shows, step_deepest, stepped_shows}
use Rattle.seat_spec.specs.Promises.{TrainingPromise, given, i, seat_terms, seat_terms_from}

-- ---- the steps are the office's

after_office : (p q : ℕ) (coefs : List ℤ) (n : ℕ) (s : State) → after n (seat_machine (seat_input p q coefs)) s ≡ after n (machine (input_of p q coefs)) s
unfolding after
after_office p q coefs zero s = refl
after_office p q coefs (suc n) s =
    ap (λ t. after n (seat_machine (seat_input p q coefs)) t) (step_limit_lem (system_of (input_of p q coefs)) 20 s)
    ∙ after_office p q coefs n (step (system_of (input_of p q coefs)) s)

after_office_from : (p q : ℕ) (coefs : List ℤ) (lower : List ℕ) (n : ℕ) (s : State)
    → after n (seat_machine_from lower (seat_input p q coefs)) s ≡ after n (machine_from lower (input_of p q coefs)) s
unfolding after
after_office_from p q coefs lower zero s = settle_office p q coefs lower s
after_office_from p q coefs lower (suc n) s =
    let t : State = settle_from lower (input_of p q coefs) s in
    ap (λ u. after n (seat_machine_from lower (seat_input p q coefs)) (step_from lower (seat_input p q coefs) u)) (settle_office p q coefs lower s)
    ∙ ap (after n (seat_machine_from lower (seat_input p q coefs))) (step_from_office p q coefs lower t)
    ∙ after_office_from p q coefs lower n (step_from lower (input_of p q coefs) t)

-- an answer of an orderly series is not renumbered
pausing_same : {answers earlier : List Answer} {a : Answer} → Pausing answers → answers ≡ a ∷ earlier → renumber a ≡ a
pausing_same {a = a} none e = absurd (let z : ◌≡◌ {A = ℕ} 0 1 = cc in omega arith)
pausing_same {a = a} (more p) e = let same : paused ≡ a = cc in rw (← same)

orderly_same : {answers earlier : List Answer} {a : Answer} → Orderly answers → answers ≡ a ∷ earlier → renumber a ≡ a
orderly_same (pausing p) e = pausing_same p e
orderly_same {a = a} (completed o) e = let same : complete ≡ a = cc in rw (← same)

module _ (p q : ℕ) (coefs : List ℤ) where
  passed : (s : State) (f : State → Outcome State) → seat_first (i p q coefs) ≡ go → checked (seat_first (i p q coefs)) s f ≡ f s
  unfolding checked
  passed s f e = rw e

  one : (s₀ : State) → seat_first (i p q coefs) ≡ go → Premises (i p q coefs) s₀ → (g : Log State) → Series (i p q coefs) s₀ g
      → ThirdDemand (i p q coefs) s₀ g × (seat_start (i p q coefs) s₀ ≡ start (i p q coefs) s₀)
      × ((budget : ℕ) → seat_resume budget (i p q coefs) g.state ≡ resume budget (i p q coefs) g.state)
  one s₀ e given g r = (
    third_demands.third_demand (i p q coefs) s₀ given g r,
    seat_starts p q coefs s₀ ∙ passed s₀ (start (i p q coefs)) e,
    λ budget.
        let same = orderly_same (third_demands.third_demand (i p q coefs) s₀ given _ (own r budget)).answers refl in
        seat_resumes p q coefs budget g.state
        ∙ passed g.state (λ t. renumbered (resume budget (i p q coefs) t)) e
        ∙ ap (λ a. record { answer = a; state = (resume budget (i p q coefs) g.state).state }) same,
  )

  grounds : Grounds (seat_machine (i p q coefs)) (seat_terms (i p q coefs))
  unfolding seat_start
  grounds =
      record {
        start_is = λ s. refl;
        start_renders = seat_start_renders (i p q coefs);
        ruled = record { before_renders = seat_resume_renders (i p q coefs); within_renders = seat_search_renders (system_of (i p q coefs)) };
        steady = λ s. refl;
        settles_steps = λ s. refl;
        step_steps = step_counts (system_of (i p q coefs));
        settles_deepest = λ s. refl;
        step_deepest = step_deepest (system_of (i p q coefs));
        goes_on = seat_left_goes p q coefs;
        longer = seat_longer p q coefs;
        start_untouched = seat_start_untouched p q coefs;
        untouched = seat_untouched p q coefs;
        start_marked = seat_start_marked p q coefs;
        marked = seat_marked p q coefs;
      }

  grounds_from : (lower : List ℕ) → Grounds (seat_machine_from lower (i p q coefs)) (seat_terms_from lower (i p q coefs))
  unfolding seat_start_from
  grounds_from lower =
      record {
        start_is = λ s. refl;
        start_renders = λ s. seat_lower_renders (i p q coefs) s lower;
        ruled = record { before_renders = λ s. seat_resume_from_renders (i p q coefs) s lower; within_renders = seat_search_from_renders lower (i p q coefs) };
        steady = settled_once lower (i p q coefs);
        settles_steps = settled_total lower (seat_map p q coefs);
        step_steps = stepped_total lower (seat_map p q coefs);
        settles_deepest = settled_shows lower (i p q coefs);
        step_deepest = stepped_shows lower (i p q coefs);
        goes_on = seat_left_goes_from p q coefs lower;
        longer = seat_longer_from p q coefs lower;
        start_untouched = seat_start_untouched_from p q coefs lower;
        untouched = seat_untouched_from p q coefs lower;
        start_marked = seat_start_marked_from p q coefs lower;
        marked = seat_marked_from p q coefs lower;
      }

  pub training_promise : TrainingPromise p q coefs
  training_promise =
      record {
        calls = first_demand_of (seat_machine (i p q coefs)) (seat_terms (i p q coefs)) grounds;
        calls_from = λ lower. first_demand_of (seat_machine_from lower (i p q coefs)) (seat_terms_from lower (i p q coefs)) (grounds_from lower);
        as_started = start_office p q coefs;
        as_started_from = start_office_from p q coefs;
        as_office = call_office p q coefs;
        as_office_from = call_office_from p q coefs;
        whole_steps = λ budget s. call_after (seat_machine (i p q coefs)) (λ t. refl) budget s ∙ after_office p q coefs (seat_steps budget (i p q coefs) s) s;
        whole_steps_from =
            λ lower budget s e. (called (seat_machine_from lower (i p q coefs)) budget s e).state
            ∙ after_office_from p q coefs lower (seat_steps_from budget lower (i p q coefs) s) s;
        goes = seat_goes p q coefs;
        lists = seat_lists p q coefs;
        finished = seat_finished p q coefs;
        goes_from = seat_goes_from p q coefs;
        lists_from = seat_lists_from p q coefs;
        finished_from = seat_finished_from p q coefs;
        never_above = λ single s r. second_demand.never_above (i p q coefs) s single (seat_run p q coefs r).1;
        one_equation = one;
      }

-- "so there if D is at most 20": the demand of the seat's own calls, with the demand's own premises and this one; the start and each own call along the series
-- are the seat's
pub third_demand_at_the_seat : (q : ℕ) (coefs : List ℤ) (s₀ : State) → let i = seat_input 1 q coefs in
    (seat_start i s₀).answer ≡ started → depth (map_of i) ≤ 20 → step_bound (map_of i) ≤ capacity q s₀.list → step_bound (map_of i) ≤ step_limit
    → (g : Log State) → Series i s₀ g
    → ThirdDemand i s₀ g × (seat_start i s₀ ≡ start i s₀) × ((budget : ℕ) → seat_resume budget i g.state ≡ resume budget i g.state)
third_demand_at_the_seat q coefs s₀ begins shallow roomy brief g r =
    let i : Input = seat_input 1 q coefs in
    let c : (checked (seat_first i) s₀ (start i)).answer ≡ started = rw (seat_starts 1 q coefs s₀) at begins in
    let (f, w) = started_goes (seat_first i) s₀ (start i) c in
    let is : seat_start i s₀ ≡ start i s₀ = seat_starts 1 q coefs s₀ ∙ w in
    (training_promise 1 q coefs).one_equation s₀ f
    (record { one = refl; begins = ap (λ o. o.answer) (sym is) ∙ begins; limited = shallow; roomy = roomy; roomy₂ = tt; brief = brief }) g r

-- ---- foreign calls

-- a call of the seat that is refused before its walk, a start too, is a foreign call of the third demand (theorems/specs/Series): it leaves the run as it is
module _ (p q : ℕ) (coefs : List ℤ) (l : Lending State) (s : State) (n : ℕ) (values : List ℕ) where
  pub start_leaves : seat_start_checks (given p q coefs l s n values) (l.handed s) ≡ refuse n values
      → meanwhile (λ t. (seat_start (given p q coefs l s n values) t).state) l s ≡ s
  start_leaves e =
      unchanged_leaves (λ t. (seat_start (given p q coefs l s n values) t).state) l s
      (ap (λ o. o.state) ((training_promise p q coefs).calls.start_unchanged (l.handed s) n values e))

  pub start_leaves_from : (lower : List ℕ) → seat_lower_checks lower (given p q coefs l s n values) (l.handed s) ≡ refuse n values
      → meanwhile (λ t. (seat_start_from lower (given p q coefs l s n values) t).state) l s ≡ s
  start_leaves_from lower e =
      unchanged_leaves (λ t. (seat_start_from lower (given p q coefs l s n values) t).state) l s
      (ap (λ o. o.state) (((training_promise p q coefs).calls_from lower).start_unchanged (l.handed s) n values e))

  pub refused_leaves : (budget : ℕ) → seat_resume_checks (given p q coefs l s n values) (l.handed s) ≡ refuse n values
      → meanwhile (λ t. (seat_resume budget (given p q coefs l s n values) t).state) l s ≡ s
  refused_leaves budget e =
      unchanged_leaves (λ t. (seat_resume budget (given p q coefs l s n values) t).state) l s
      (ap (λ o. o.state) ((training_promise p q coefs).calls.unchanged budget (l.handed s) n values e))

  pub refused_leaves_from : (lower : List ℕ) (budget : ℕ) → seat_resume_from_checks lower (given p q coefs l s n values) (l.handed s) ≡ refuse n values
      → meanwhile (λ t. (seat_resume_from budget lower (given p q coefs l s n values) t).state) l s ≡ s
  refused_leaves_from lower budget e =
      unchanged_leaves (λ t. (seat_resume_from budget lower (given p q coefs l s n values) t).state) l s
      (ap (λ o. o.state) (((training_promise p q coefs).calls_from lower).unchanged budget (l.handed s) n values e))
