-- A number of 64 bits holds each answer of the seat's calls. Assumes nothing.
use Rattle.std.specs.Prelude.{ℕ, List, ℤ}
use Rattle.std.proofs.Math.Decide.{ℕ_discrete}
use Rattle.std.proofs.Common.{arith, eq-eqb, ne_eqb}
use Rattle.definitions.specs.Answers.{Answer, ◌then◌, complete, paused, refused, started}
use Rattle.definitions.specs.Calls.{resume, resume_from, start, start_from}
use Rattle.definitions.specs.Input.{Input}
use Rattle.definitions.specs.Refusals.{check1, unknowns_check}
use Rattle.definitions.specs.Tables.{State}
use Rattle.c_record.specs.CodeLaws.{Fits, Small, fits_checked, resume_fits, resume_from_fits, small_if, small_then, start_fits, start_from_fits}
use Rattle.seat_spec.specs.Training.{check23, seat_input, seat_resume, seat_resume_from, seat_start, seat_start_from}
use Rattle.seat_spec.specs.TrainingRules.{renumber, renumbered, seat_first}
use Rattle.seat_spec.proofs.TrainingRules.{seat_resumes, seat_resumes_from, seat_starts, seat_starts_from}

-- 24 fits where 12 does
renumber_fits : (a : Answer) → Fits a → Fits (renumber a)
renumber_fits started h = h
renumber_fits complete h = h
renumber_fits paused h = h
renumber_fits (refused n values) h =
    elim (ℕ_discrete n 12) [
      | yes e ↦ rw (eq-eqb n 12 e) (omega (arith, h, e))
      | no ne ↦ rw (ne_eqb n 12 ne) h
    ]

small_seat : (i : Input) → Small (seat_first i)
small_seat i =
    small_then (check1 i) (unknowns_check i then check23 i) (small_if _ 1 (omega arith)) (λ _.
    small_then (unknowns_check i) (check23 i) (small_if _ 2 (omega arith)) (λ _. small_if _ 23 (omega arith)))

module _ (p q : ℕ) (coefs : List ℤ) (s : State) where
  abbrev i : Input
  i = seat_input p q coefs

  pub seat_start_fits : Fits (seat_start i s).answer
  seat_start_fits = rw (seat_starts p q coefs s) (fits_checked (seat_first i) s (start i) (small_seat i) (start_fits i s))

  pub seat_start_from_fits : (lower : List ℕ) → Fits (seat_start_from lower i s).answer
  seat_start_from_fits lower =
      rw (seat_starts_from p q coefs lower s) (fits_checked (seat_first i) s (start_from lower i) (small_seat i) (start_from_fits i s lower))

  pub seat_resume_fits : (budget : ℕ) → Fits (seat_resume budget i s).answer
  seat_resume_fits budget =
      rw (seat_resumes p q coefs budget s)
      (fits_checked (seat_first i) s (λ t. renumbered (resume budget i t)) (small_seat i) (renumber_fits (resume budget i s).answer (resume_fits i s budget)))

  pub seat_resume_from_fits : (budget : ℕ) (lower : List ℕ) → Fits (seat_resume_from budget lower i s).answer
  seat_resume_from_fits budget lower =
      rw (seat_resumes_from p q coefs lower budget s)
      (fits_checked (seat_first i) s (λ t. renumbered (resume_from budget lower i t)) (small_seat i)
      (renumber_fits (resume_from budget lower i s).answer (resume_from_fits i s budget lower)))
