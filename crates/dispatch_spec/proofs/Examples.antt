-- The dispatcher by computation, on the runs 2 −3 (6 steps) and 1 1 −1 (5 steps) with turns of 3 steps. Each has its parts of two tables that hold
-- old content before, between and after them. Assumes nothing.
use Rattle.std.specs.Prelude.{ℕ, zero, suc, ◌+◌, ◌*◌, ◌≡◌, refl, Bool, true, false, ◌&&◌, ◌||◌, List, ◌∷◌, [], eqb, ℤ, pos, negsuc, length, get_or, take}
use Rattle.std.specs.Prelude.{replicate}
use Rattle.std.proofs.Math.Option.{none, some}
use Rattle.linear.specs.Sums.{sum_to}
use Rattle.linear.specs.Tests.{all_to, any_to, count_to}
use Rattle.linear.specs.Tuples.{total, unit}
use Rattle.linear.specs.Systems.{inner, value}
use Rattle.definitions.specs.Answers.{Answer, Check, complete, go, paused, refuse, refuse_first, refuse_with, refused, started, ◌then◌}
use Rattle.definitions.specs.Input.{input_of}
use Rattle.definitions.specs.Machine.{call, checked, unless_done, walk}
use Rattle.definitions.specs.System.{covered, is_at_or_below, solves}
use Rattle.definitions.specs.Tables.{begun, bit, frozen, plain_run, units_to, write_row, write_to}
use Rattle.definitions.specs.Step.{makes, marks_to, write_children, listed, grown, step}
use Rattle.definitions.specs.Refusals.{row_fits, in_order, check7, resume_checks, too_large, search_checks}
use Rattle.dispatch_spec.specs.Parts.{Part, part, part_of, with_part, lies, overlap, apart}
use Rattle.dispatch_spec.specs.Dispatch.{Schedule, Share, Round, Dispatched, first_to, total_to, own, next_after, leave_turn, serve}
use Rattle.dispatch_spec.specs.Dispatch.{after_turns, opened, answer_for, steps_between, dispatch_checks, dispatch}

-- ---- whose turn it is: "rising from the one after the run served last .. (0 at first)", and with run 1 after the last one

order_holds : (next_after 3 0 (λ i. true) ≡ some 0) × (next_after 3 1 (λ i. true) ≡ some 1) × (next_after 3 3 (λ i. true) ≡ some 0)
    × (next_after 3 8 (λ i. true) ≡ some 0)
    × (next_after 3 2 (λ i. eqb i 1) ≡ some 1) × (next_after 3 2 (λ i. false) ≡ none)
unfolding next_after first_to
order_holds = (refl, refl, refl, refl, refl, refl)

-- ---- whole calls

share : List ℤ → Part → Part → Share
share coefs stack list = record { input = input_of 1 (length coefs) coefs; stack_part = stack; list_part = list }

-- run 1 has as many numbers of the list table as are said
pair : Part → ℕ → ℕ → Share
pair stack room zero = share (pos 2 ∷ negsuc 2 ∷ []) stack (part 1 room)
pair stack room (suc i) = share (pos 1 ∷ pos 1 ∷ negsuc 0 ∷ []) (part 1 13) (part 9 9)

schedule : Part → ℕ → ℕ → Schedule
schedule stack room quantum = record { count = 2; shares = pair stack room; quantum = quantum }

-- after two plain starts, run 2 having been served last
starts : Round
starts =
    record {
      stack = with_part (part 15 6) (with_part (part 1 12) (replicate 22 9) (units_to 3 3 (replicate 12 9))) (units_to 2 2 (replicate 6 9));
      list = replicate 20 9;
      progress = λ i. record { run = begun plain_run (2 + i); answer = none };
      last = 2;
    }

-- what a call comes to: its refusal; the answers at the numbers of the two runs and one past them; the steps; the rows of run 1; both heights; the
-- number kept; and whether all outside the parts is as it was
record Summary : Type 0 where
  check : Check
  answers : List Answer
  steps : ℕ
  rows : List ℕ
  heights : List ℕ
  last : ℕ
  untouched : Bool

nines : List ℕ → Part → Part → Bool
nines table a b = all_to (length table) (λ x. lies a x || (lies b x || eqb (get_or table x 0) 9))

summary : Dispatched → Summary
summary o =
    record {
      check = o.check;
      answers = o.answers 0 ∷ o.answers 1 ∷ o.answers 2 ∷ [];
      steps = o.steps;
      rows = take ((o.round.progress 0).run.found * 2) (part_of (part 1 7) o.round.list);
      heights = (o.round.progress 0).run.height ∷ (o.round.progress 1).run.height ∷ [];
      last = o.round.last;
      untouched = nines o.round.stack (part 15 6) (part 1 13) && nines o.round.list (part 1 7) (part 9 9);
    }

called : ℕ → Schedule → Summary
called turns d = summary (dispatch turns d starts)

comes : List Answer → ℕ → List ℕ → List ℕ → ℕ → Summary
comes answers steps rows heights last = record { check = go; answers = answers; steps = steps; rows = rows; heights = heights; last = last; untouched = true }

refuses : ℕ → Summary
refuses n =
    record { check = refuse n []; answers = started ∷ started ∷ started ∷ []; steps = 0; rows = []; heights = 2 ∷ 3 ∷ []; last = 2; untouched = true }

-- no turn; one turn; eleven turns of one step, and more, which there are none of; three turns, the third of which ends run 1; more turns than are needed; three
-- turns, the third of which is refused; more turns, of which that run has no other; a turn of 0 steps; parts that overlap; a part that leaves the table
calls_hold : (called 0 (schedule (part 15 6) 7 3) ≡ comes (paused ∷ paused ∷ started ∷ []) 0 [] (2 ∷ 3 ∷ []) 2)
    × (called 1 (schedule (part 15 6) 7 3) ≡ comes (paused ∷ paused ∷ started ∷ []) 3 [] (1 ∷ 3 ∷ []) 1)
    × (called 11 (schedule (part 15 6) 7 1) ≡ comes (complete ∷ complete ∷ started ∷ []) 11 (3 ∷ 2 ∷ []) (0 ∷ 0 ∷ []) 1)
    × (called 30 (schedule (part 15 6) 7 1) ≡ comes (complete ∷ complete ∷ started ∷ []) 11 (3 ∷ 2 ∷ []) (0 ∷ 0 ∷ []) 1)
    × (called 3 (schedule (part 15 6) 7 3) ≡ comes (complete ∷ paused ∷ started ∷ []) 9 (3 ∷ 2 ∷ []) (0 ∷ 1 ∷ []) 1)
    × (called 9 (schedule (part 15 6) 7 3) ≡ comes (complete ∷ complete ∷ started ∷ []) 11 (3 ∷ 2 ∷ []) (0 ∷ 0 ∷ []) 2)
    × (called 3 (schedule (part 15 6) 1 3) ≡ comes (refused 11 [] ∷ paused ∷ started ∷ []) 8 [] (1 ∷ 1 ∷ []) 1)
    × (called 9 (schedule (part 15 6) 1 3) ≡ comes (refused 11 [] ∷ complete ∷ started ∷ []) 10 [] (1 ∷ 0 ∷ []) 2)
    × (called 9 (schedule (part 15 6) 7 0) ≡ refuses 27)
    × (called 9 (schedule (part 13 8) 7 3) ≡ refuses 28)
    × (called 9 (schedule (part 15 8) 7 3) ≡ refuses 28)
unfolding total part share pair schedule starts nines summary called comes refuses part_of with_part overlap apart first_to total_to own next_after leave_turn
    serve
    after_turns opened answer_for steps_between dispatch_checks dispatch sum_to all_to any_to count_to unit inner value refuse_with ◌then◌ refuse_first solves
    is_at_or_below
    covered bit frozen write_to write_row units_to makes marks_to write_children listed grown step row_fits in_order check7 resume_checks too_large
    search_checks checked
    unless_done walk call
calls_hold = (refl, refl, refl, refl, refl, refl, refl, refl, refl, refl, refl)
