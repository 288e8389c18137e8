-- The training seat by computation: 2 −3 as at the office; a component of 20 that no step may pass; each refusal at its edge. Assumes nothing.
use Rattle.std.specs.Prelude.{ℕ, ◌*◌, ◌≡◌, refl, List, ◌∷◌, [], ℤ, pos, negsuc, replicate, take}
use Rattle.linear.specs.Sums.{sum_to}
use Rattle.linear.specs.Tests.{all_to, any_to, count_to}
use Rattle.linear.specs.Tuples.{total, unit}
use Rattle.linear.specs.Systems.{inner, value}
use Rattle.definitions.specs.Answers.{Answer, complete, go, refuse, refused, refuse_with, ◌then◌, refuse_first}
use Rattle.definitions.specs.System.{covered, is_at_or_below, solves}
use Rattle.definitions.specs.Tables.{State, begun, bit, frozen, plain_run, write_to, write_row, units_to, units_start}
use Rattle.definitions.specs.Step.{grown, listed, makes, marks_to, step, write_children}
use Rattle.definitions.specs.Refusals.{row_fits, in_order, check7, too_large}
use Rattle.definitions.specs.Machine.{Outcome, call, checked, unless_done, walk}
use Rattle.seat_spec.specs.Training.{seat_input, seat_lower_checks, seat_resume, seat_resume_checks, seat_search, seat_start, seat_start_checks}

-- the answer, the rows, the steps and the greatest sum
record Summary : Type 0 where
  answer : Answer
  rows : List ℕ
  steps : ℕ
  deepest : ℕ

lent : ℕ → State
lent stack = record { stack = replicate stack 0; list = replicate 9 0; second = []; run = begun plain_run 0 }

summed : ℕ → Outcome State → Summary
summed q o =
    record { answer = o.answer; rows = take (o.state.run.found * q) o.state.list; steps = o.state.run.steps; deepest = o.state.run.deepest }

ran : ℕ → List ℤ → Summary
ran q coefs = summed q (seat_resume 100 (seat_input 1 q coefs) (seat_start (seat_input 1 q coefs) (lent 42)).state)

-- 20 −19 has 19 20; 21 −20 would need a component of 21, and its run stands before it
runs_hold : (ran 2 (pos 2 ∷ negsuc 2 ∷ []) ≡ record { answer = complete; rows = 3 ∷ 2 ∷ []; steps = 6; deepest = 5 })
    × (ran 2 (pos 20 ∷ negsuc 18 ∷ []) ≡ record { answer = complete; rows = 19 ∷ 20 ∷ []; steps = 40; deepest = 39 })
    × (ran 2 (pos 21 ∷ negsuc 19 ∷ []) ≡ record { answer = refused 24 []; rows = []; steps = 40; deepest = 39 })
unfolding lent summed ran sum_to inner value unit total all_to any_to count_to refuse_with ◌then◌ refuse_first solves is_at_or_below covered bit frozen write_to
    write_row units_to units_start makes marks_to write_children listed grown step row_fits in_order check7 too_large checked unless_done walk call seat_search
    seat_start seat_start_checks seat_resume_checks
runs_hold = (refl, refl, refl)

-- 2 before 23, 23 before 3; a lower bound above 20; a row above 20
refusals_hold : (seat_start_checks (seat_input 1 17 []) (lent 42) ≡ refuse 2 [])
    × (seat_start_checks (seat_input 1 7 []) (lent 42) ≡ refuse 23 [])
    × (seat_start_checks (seat_input 1 6 (replicate 6 (pos 1))) (lent 42) ≡ go)
    × (seat_lower_checks (20 ∷ 20 ∷ []) (seat_input 1 2 (pos 1 ∷ pos 1 ∷ [])) (lent 6) ≡ go)
    × (seat_lower_checks (20 ∷ 21 ∷ []) (seat_input 1 2 (pos 1 ∷ pos 1 ∷ [])) (lent 6) ≡ refuse 8 [])
    × (seat_resume_checks (seat_input 1 1 (pos 1 ∷ [])) (record { stack = 20 ∷ 0 ∷ []; list = []; second = []; run = begun plain_run 1 }) ≡ go)
    × (seat_resume_checks (seat_input 1 1 (pos 1 ∷ [])) (record { stack = 21 ∷ 0 ∷ []; list = []; second = []; run = begun plain_run 1 }) ≡ refuse 6 [])
unfolding lent all_to any_to count_to bit frozen refuse_with ◌then◌ refuse_first row_fits in_order check7 seat_start_checks seat_lower_checks seat_resume_checks
refusals_hold = (refl, refl, refl, refl, refl, refl, refl)
