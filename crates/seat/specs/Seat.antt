-- A call of the seat from what the core's calls left, and 24 for 12 in the code's answers. Assumes nothing.
use Rattle.std.specs.Prelude.{◌≡◌, refl, List, ℕ, ℤ, Result, Ok, Err}
use Rattle.std.proofs.Common.{sym, ◌∙◌, ap}
use Rattle.definitions.specs.Answers as paper
use Rattle.definitions.specs.Answers.{◌then◌}
use Rattle.definitions.specs.Calls.{resume, resume_from, start, start_from}
use Rattle.definitions.specs.Input.{Input, input_of}
use Rattle.definitions.specs.Machine as machine
use Rattle.definitions.specs.Refusals.{check7, start_checks}
use Rattle.definitions.specs.Tables.{State, units_start}
use Rattle.laws.proofs.AnswerLaws.{then_assoc}
use Rattle.checks.specs.Counts.{size_checks}
use Rattle.seat_spec.specs.Training.{check23, seat_input, seat_resume, seat_resume_from, seat_start, seat_start_from}
use Rattle.seat_spec.specs.TrainingRules.{renumbered, seat_first}
use Rattle.seat_spec.proofs.TrainingRules.{seat_resumes, seat_resumes_from, seat_starts, seat_starts_from}
use Rattle.calls.proofs.CallLaws.{call_passed, call_refused}
use Rattle.calls.specs.Paper.{answer_of, check_of}
use Rattle.calls.specs.declared.Answer.TheVariants.{Refused}
use Rattle.calls.specs.declared.Refusal.{Refusal}

-- ---- 24 for 12

abbrev pub refused_for : Refusal → paper.Answer
refused_for why = answer_of (Refused why)

-- ---- 1 and 2 are those of every call, and 23 comes straight after them

pub sizes_first : (p q : ℕ) (coefs : List ℤ) → size_checks p q 0 then check23 (seat_input p q coefs) ≡ seat_first (seat_input p q coefs)
unfolding size_checks
sizes_first p q coefs = simp then_assoc

-- ---- the calls

-- a start without a lower bound does not look at the limit
any_limit : (p q : ℕ) (coefs : List ℤ) (s : State) → start (input_of p q coefs) s ≡ start (seat_input p q coefs) s
unfolding start start_checks check7 units_start
any_limit p q coefs s = refl

module _ (p q : ℕ) (coefs : List ℤ) (s : State) where
  abbrev i : Input
  i = seat_input p q coefs

  -- a start of the seat is the core's behind its own check, and a continuing call the core's with 24 for 12; r is what that check found
  module _ {r : Result (Unit {0}) Refusal} (e : (given : List ℤ) → check_of r ≡ seat_first (seat_input p q given)) where
    module _ {call : machine.Outcome State} (core : State → machine.Outcome State) (splits : call ≡ machine.checked (seat_first i) s core) where
      seat_refused : {why : Refusal} → r ≡ Err why → record { answer = refused_for why; state = s } ≡ call
      seat_refused h = call_refused (e coefs) s core h ∙ sym splits

      seat_passed : {x : Unit {0}} → r ≡ Ok x → {o : machine.Outcome State} → o ≡ core s → o ≡ call
      seat_passed h g = call_passed (e coefs) s core h g ∙ sym splits

    module _ {why : Refusal} (h : r ≡ Err why) where
      pub start_refused : record { answer = refused_for why; state = s } ≡ seat_start i s
      start_refused = seat_refused (start i) (seat_starts p q coefs s) h

      pub start_from_refused : (lower : List ℕ) → record { answer = refused_for why; state = s } ≡ seat_start_from lower i s
      start_from_refused lower = seat_refused (start_from lower i) (seat_starts_from p q coefs lower s) h

      pub resume_refused : (budget : ℕ) → record { answer = refused_for why; state = s } ≡ seat_resume budget i s
      resume_refused budget = seat_refused (λ t. renumbered (resume budget i t)) (seat_resumes p q coefs budget s) h

      pub resume_from_refused : (budget : ℕ) (lower : List ℕ) → record { answer = refused_for why; state = s } ≡ seat_resume_from budget lower i s
      resume_from_refused budget lower = seat_refused (λ t. renumbered (resume_from budget lower i t)) (seat_resumes_from p q coefs lower budget s) h

    module _ {x : Unit {0}} (h : r ≡ Ok x) {o : machine.Outcome State} where
      pub start_passed : o ≡ start (input_of p q coefs) s → o ≡ seat_start i s
      start_passed g = seat_passed (start i) (seat_starts p q coefs s) h (g ∙ any_limit p q coefs s)

      pub start_from_passed : (lower : List ℕ) → o ≡ start_from lower i s → o ≡ seat_start_from lower i s
      start_from_passed lower g = seat_passed (start_from lower i) (seat_starts_from p q coefs lower s) h g

      pub resume_passed : (budget : ℕ) {u : machine.Outcome State} → u ≡ resume budget i s → o ≡ renumbered u → o ≡ seat_resume budget i s
      resume_passed budget g d = seat_passed (λ t. renumbered (resume budget i t)) (seat_resumes p q coefs budget s) h (d ∙ ap renumbered g)

      pub resume_from_passed : (budget : ℕ) (lower : List ℕ) {u : machine.Outcome State} → u ≡ resume_from budget lower i s → o ≡ renumbered u
          → o ≡ seat_resume_from budget lower i s
      resume_from_passed budget lower g d =
          seat_passed (λ t. renumbered (resume_from budget lower i t)) (seat_resumes_from p q coefs lower budget s) h (d ∙ ap renumbered g)
