-- WHAT THE TRAINING SEAT PROMISES. Open this file first. Assumes nothing.
use Rattle.std.specs.Prelude.{◌≡◌, List, ◌+◌, ◌≤◌, ℕ, ℤ}
use Rattle.definitions.specs.Answers.{complete, go, started}
use Rattle.definitions.specs.Bound.{depth}
use Rattle.definitions.specs.Calls.{machine, machine_from, resume, start, start_from}
use Rattle.definitions.specs.Input.{Input, bound_of, input_of, map_of, system_of}
use Rattle.definitions.specs.Machine.{after}
use Rattle.definitions.specs.System.{MinimalFrom, MinimalSolution}
use Rattle.definitions.specs.Tables.{State, lower_start, units_start}
use Rattle.theorems.specs.Demands.{FirstDemand, Lists, ListsFrom, ThirdDemand}
use Rattle.theorems.specs.Listed.{Exactly}
use Rattle.theorems.specs.LowerFirst.{LongerFrom}
use Rattle.theorems.specs.OwnCalls.{Log}
use Rattle.theorems.specs.Run.{Longer}
use Rattle.theorems.specs.Series.{Lending, Series}
use Rattle.theorems.specs.Third.{Premises}
use Rattle.theorems.specs.Untouched.{Marked, Untouched}
use Rattle.seat_spec.specs.Office.{AsOffice}
use Rattle.seat_spec.specs.SeatRuns.{SeatRun, SeatRunFrom}
use Rattle.seat_spec.specs.SeatRuns.{seat_map}
use Rattle.seat_spec.specs.Training.{seat_input, seat_lower_checks, seat_machine, seat_machine_from, seat_resume, seat_resume_checks, seat_resume_from}
use Rattle.seat_spec.specs.Training.{seat_resume_from_checks, seat_start, seat_start_checks, seat_start_from, seat_steps, seat_steps_from}
use Rattle.seat_spec.specs.TrainingRules.{seat_first, seat_lower_rules}
use Rattle.seat_spec.specs.TrainingRules.{seat_resume_from_rules, seat_resume_rules, seat_search_from_rules, seat_search_rules, seat_start_rules}
use Rattle.theorems.specs.Deepest.{top_sum, top_sum_from}
use Rattle.theorems.specs.CallTerms.{CallTerms}

-- ---- the promise

-- the seat's calls in the terms of the first demand: the core's, with 23 straight after 2 and 24 in the place of 12
abbrev pub seat_terms : Input → CallTerms State
seat_terms i =
    record {
      start = seat_start i;
      start_checks = seat_start_checks i;
      start_rules = seat_start_rules i;
      begun = units_start (system_of i);
      before = seat_resume_rules i;
      within = seat_search_rules (system_of i);
      steps = λ s. s.run.steps;
      deepest = λ s. s.run.deepest;
      top_sum = top_sum i;
      untouched = Untouched i.q i.q;
      marked = Marked i.q;
      longer = Longer (system_of i);
    }

abbrev pub seat_terms_from : List ℕ → Input → CallTerms State
seat_terms_from lower i =
    record {
      start = seat_start_from lower i;
      start_checks = seat_lower_checks lower i;
      start_rules = seat_lower_rules lower i;
      begun = lower_start (map_of i);
      before = seat_resume_from_rules lower i;
      within = seat_search_from_rules lower i;
      steps = λ s. s.run.steps + s.run.steps2;
      deepest = λ s. s.run.deepest;
      top_sum = top_sum_from lower i;
      untouched = Untouched i.q i.q;
      marked = Marked i.q;
      longer = LongerFrom i.q;
    }

pub record TrainingPromise (p q : ℕ) (coefs : List ℤ) : Type 0 where
  -- the first demand
  pub calls : FirstDemand (seat_machine (seat_input p q coefs)) (seat_terms (seat_input p q coefs))
  pub calls_from : (lower : List ℕ) → FirstDemand (seat_machine_from lower (seat_input p q coefs)) (seat_terms_from lower (seat_input p q coefs))
  -- "A training run that is not refused lists what the office run lists after as many steps.": its start is the office's, and each of its calls that is let go
  -- on is let go on by the office, whose call takes as many steps to the same tables and record, and gives the same answer unless that is 24
  pub as_started : (s : State) → (seat_start (seat_input p q coefs) s).answer ≡ started → start (input_of p q coefs) s ≡ seat_start (seat_input p q coefs) s
  pub as_started_from : (lower : List ℕ) (s : State) → (seat_start_from lower (seat_input p q coefs) s).answer ≡ started
      → start_from lower (input_of p q coefs) s ≡ seat_start_from lower (seat_input p q coefs) s
  pub as_office : (budget : ℕ) (s : State) → seat_resume_checks (seat_input p q coefs) s ≡ go
      → AsOffice budget (seat_machine (seat_input p q coefs)) (machine (input_of p q coefs)) s
  pub as_office_from : (lower : List ℕ) (budget : ℕ) (s : State) → seat_resume_from_checks lower (seat_input p q coefs) s ≡ go
      → AsOffice budget (seat_machine_from lower (seat_input p q coefs)) (machine_from lower (input_of p q coefs)) s
  -- the steps are the office's
  pub whole_steps : (budget : ℕ) (s : State)
      → (seat_resume budget (seat_input p q coefs) s).state ≡ after (seat_steps budget (seat_input p q coefs) s) (machine (input_of p q coefs)) s
  pub whole_steps_from : (lower : List ℕ) (budget : ℕ) (s : State) → let i = seat_input p q coefs in seat_resume_from_checks lower i s ≡ go
      → (seat_resume_from budget lower i s).state ≡ after (seat_steps_from budget lower i s) (machine_from lower (input_of p q coefs)) s
  -- the second demand, of the seat's own calls: they are let go on, and the lists hold what the core's hold; finished, all of it
  pub goes : (s : State) → SeatRun p q coefs s → seat_resume_checks (seat_input p q coefs) s ≡ go
  pub lists : (s : State) → SeatRun p q coefs s → Lists (seat_input p q coefs) s
  pub finished : (s : State) → SeatRun p q coefs s → (budget : ℕ) → let o = seat_resume budget (seat_input p q coefs) s in o.answer ≡ complete
      → Exactly q (MinimalSolution (map_of (seat_input p q coefs))) o.state.list o.state.run.found
  pub goes_from : (lower : List ℕ) (s : State) → SeatRunFrom lower p q coefs s → seat_resume_from_checks lower (seat_input p q coefs) s ≡ go
  pub lists_from : (lower : List ℕ) (s : State) → SeatRunFrom lower p q coefs s → ListsFrom lower (seat_map p q coefs) s
  pub finished_from : (lower : List ℕ) (s : State) → SeatRunFrom lower p q coefs s → (budget : ℕ) → let o =
      seat_resume_from budget lower (seat_input p q coefs) s in
      o.answer ≡ complete
      → Exactly q (MinimalFrom (map_of (seat_input p q coefs)) (bound_of lower)) o.state.list o.state.run.found
      × Exactly q (MinimalSolution (map_of (seat_input p q coefs))) o.state.second o.state.run.found2
  -- (Job 6) "the number shown is never above D"
  pub never_above : p ≡ 1 → (s : State) → SeatRun p q coefs s → s.run.deepest ≤ depth (map_of (seat_input p q coefs))
  -- "The one-equation promise holds under any limit of at least D, so there if D is at most 20": the premises say so, and the seat's calls along such a series
  -- are those that the promise is about
  pub one_equation : (s₀ : State) → seat_first (seat_input p q coefs) ≡ go → Premises (seat_input p q coefs) s₀ → (g : Log State)
      → Series (seat_input p q coefs) s₀ g
      → ThirdDemand (seat_input p q coefs) s₀ g × (seat_start (seat_input p q coefs) s₀ ≡ start (seat_input p q coefs) s₀)
      × ((budget : ℕ) → seat_resume budget (seat_input p q coefs) g.state ≡ resume budget (seat_input p q coefs) g.state)

module _ (p q : ℕ) (coefs : List ℤ) where
  abbrev pub i : Input
  i = seat_input p q coefs

-- ---- foreign calls

-- a call of the seat that is refused before its walk, a start too, is a foreign call of the third demand (theorems/specs/Series): it leaves the run as it is
module _ (p q : ℕ) (coefs : List ℤ) (l : Lending State) (s : State) (n : ℕ) (values : List ℕ) where
  abbrev pub given : Input
  given = seat_input p q coefs
