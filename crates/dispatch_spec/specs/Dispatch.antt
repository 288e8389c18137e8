-- Document 02, job 14: the dispatcher, a round robin of plain runs. Runs count from 0 here; the dispatcher's record keeps the number of a run from 1,
-- and 0 before the first turn. Assumes nothing.
use Rattle.std.specs.Prelude.{ℕ, zero, suc, ◌+◌, ◌-◌, Bool, true, false, not, ◌&&◌, ◌||◌, List, [], ltb, eqb, length}
use Rattle.std.proofs.Math.Option.{Option, none, some}
use Rattle.definitions.specs.Answers as answers
use Rattle.definitions.specs.Answers.{Answer, Check, refuse, go, ◌then◌, refuse_if}
use Rattle.definitions.specs.Calls.{resume}
use Rattle.definitions.specs.Input.{Input}
use Rattle.definitions.specs.Machine.{Outcome}
use Rattle.definitions.specs.Refusals.{between}
use Rattle.definitions.specs.Tables.{Record, State}
use Rattle.dispatch_spec.specs.Parts.{Part, part_of, with_part, apart}

-- "A dispatcher holds 1 to 8 plain runs"
abbrev pub most_runs : ℕ
most_runs = 8

-- one of two values
abbrev pub either : {A : Type 0} → Bool → A → A → A
either true x y = x
either false x y = y

-- the value x at place i, and those of f at the others
abbrev pub put : {A : Type 0} → ℕ → A → (ℕ → A) → ℕ → A
put i x f j = either (eqb j i) x (f j)

-- the first of the places 0 .. n - 1 at which f holds
abbrev pub or_else : Option ℕ → Bool → ℕ → Option ℕ
or_else (some i) b n = some i
or_else none b n = either b (some n) none

unfoldable pub first_to : ℕ → (ℕ → Bool) → Option ℕ
first_to zero f = none
first_to (suc n) f = or_else (first_to n f) (f n) n

-- f 0 + .. + f (n - 1)
unfoldable pub total_to : ℕ → (ℕ → ℕ) → ℕ
total_to zero f = 0
total_to (suc n) f = total_to n f + f n

-- ---- what a call is handed

-- What a run goes by: its map, and "its own part of one stack table and one list table"
pub record Share : Type 0 where
  pub input : Input
  pub stack_part : Part
  pub list_part : Part

-- "the same runs, turn length": how many runs, what each goes by, and the quantum (document 02: a turn's "fixed number of steps")
pub record Schedule : Type 0 where
  pub count : ℕ
  pub shares : ℕ → Share
  pub quantum : ℕ

-- How far a run has come: its run record, and what its last turn in this call answered, if it had one
pub record Progress : Type 0 where
  pub run : Record
  pub answer : Option Answer

-- All that is lent to a call, and the dispatcher's record: the two tables, the runs' records, the number of the run served last, "(0 at first)"
pub record Round : Type 0 where
  pub stack : List ℕ
  pub list : List ℕ
  pub progress : ℕ → Progress
  pub last : ℕ

-- ---- a run by itself

-- run i as it would be alone: its own parts of the tables, and its record
unfoldable pub own : Schedule → Round → ℕ → State
own d r i =
    record {
      stack = part_of (d.shares i).stack_part r.stack;
      list = part_of (d.shares i).list_part r.list;
      second = [];
      run = (r.progress i).run;
    }

-- "the unfinished runs (height above 0)", and "A run that refuses or finishes leaves the round for that call."
abbrev pub stays_in : ℕ → Option Answer → Bool
stays_in height none = ltb 0 height
stays_in height (some answers.paused) = true
stays_in height (some answers.started) = false
stays_in height (some answers.complete) = false
stays_in height (some (answers.refused n values)) = false

abbrev pub in_round : Round → ℕ → Bool
in_round r i = stays_in (r.progress i).run.height (r.progress i).answer

-- ---- whose turn it is: "rising from the one after the run served last"

-- the first run that is asked: the one after the run served last, and the first one after the last one
abbrev pub first_asked : ℕ → ℕ → ℕ
first_asked count last = either (ltb last count) last 0

-- k runs further, the first one coming after the last one
abbrev pub further : ℕ → ℕ → ℕ → ℕ
further count start k = either (ltb (start + k) count) (start + k) (start + k - count)

abbrev pub further_by : ℕ → ℕ → Option ℕ → Option ℕ
further_by count start none = none
further_by count start (some k) = some (further count start k)

unfoldable pub next_after : ℕ → ℕ → (ℕ → Bool) → Option ℕ
next_after count last stays = further_by count (first_asked count last) (first_to count (λ k. stays (further count (first_asked count last) k)))

abbrev pub next : ℕ → Round → Option ℕ
next count r = next_after count r.last (in_round r)

-- ---- a turn

-- what a continuing call of run i left goes to its parts, its record and its answer, and its number is kept
unfoldable pub leave_turn : Schedule → ℕ → Round → Outcome State → Round
leave_turn d i r o =
    record {
      stack = with_part (d.shares i).stack_part r.stack o.state.stack;
      list = with_part (d.shares i).list_part r.list o.state.list;
      progress = put i (record { run = o.state.run; answer = some o.answer }) r.progress;
      last = suc i;
    }

-- a turn of run i: a continuing call, "with a turn's steps as allowance"
abbrev pub turn_of : Schedule → ℕ → Round → Outcome State
turn_of d i r = resume d.quantum (d.shares i).input (own d r i)

abbrev pub serve_run : Option ℕ → Schedule → Round → Round
serve_run none d r = r
serve_run (some i) d r = leave_turn d i r (turn_of d i r)

-- the next turn, if a run is in the round
unfoldable pub serve : Schedule → Round → Round
serve d r = serve_run (next d.count r) d r

-- "as many turns as the call asks, refused ones counted"
unfoldable pub after_turns : ℕ → Schedule → Round → Round
after_turns zero d r = r
after_turns (suc k) d r = serve d (after_turns k d r)

-- ---- a call

-- no run has had a turn in this call
unfoldable pub opened : Round → Round
opened r =
    record {
      stack = r.stack;
      list = r.list;
      progress = λ i. record { run = (r.progress i).run; answer = none };
      last = r.last;
    }

-- "a run without a turn answers as to allowance 0"
abbrev pub or_idle : Option Answer → Input → State → Answer
or_idle none input s = (resume 0 input s).answer
or_idle (some a) input s = a

unfoldable pub answer_for : Schedule → Round → ℕ → Answer
answer_for d r i = or_idle (r.progress i).answer (d.shares i).input (own d r i)

-- "The steps reported are the sum of those the runs took in the call."
unfoldable pub steps_between : ℕ → Round → Round → ℕ
steps_between count before after = total_to count (λ i. (after.progress i).run.steps - (before.progress i).run.steps)

-- What a call answers, and what it leaves in all that it was lent: refusal 27 or 28, if one is due; the answer of each run; and the steps that they took.
-- Answers are given for every number, so that none is left open: a number that is no run's, and in a refused call each, has "started", which no
-- continuing call answers.
pub record Dispatched : Type 0 where
  pub check : Check
  pub answers : ℕ → Answer
  pub steps : ℕ
  pub round : Round

-- "27, not 1 to 8 runs, a turn of 0 steps or a kept number above 8"
abbrev pub check27 : Schedule → Round → Check
check27 d r = refuse_if (not (between 1 most_runs d.count) || (eqb d.quantum 0 || ltb most_runs r.last)) 27

-- "28, two parts overlap or leave the table"
abbrev pub check28 : Schedule → Round → Check
check28 d r =
    refuse_if (not (apart d.count (length r.stack) (λ i. (d.shares i).stack_part) && apart d.count (length r.list) (λ i. (d.shares i).list_part))) 28

-- "both before any run's own refusals"
unfoldable pub dispatch_checks : Schedule → Round → Check
dispatch_checks d r = check27 d r then check28 d r

-- the answers of the runs
abbrev pub answers_of : Schedule → Round → ℕ → Answer
answers_of d r i = either (ltb i d.count) (answer_for d r i) answers.started

abbrev pub served_to : Schedule → Round → Round → Dispatched
served_to d before after = record { check = go; answers = answers_of d after; steps = steps_between d.count before after; round = after }

-- "a refusal not given within a walk changes nothing lent"
abbrev pub refused_with : Check → Round → Dispatched
refused_with check r = record { check = check; answers = λ i. answers.started; steps = 0; round = r }

abbrev pub checked_turns : Check → ℕ → Schedule → Round → Dispatched
checked_turns (refuse n values) turns d r = refused_with (refuse n values) r
checked_turns go turns d r = served_to d r (after_turns turns d (opened r))

unfoldable pub dispatch : ℕ → Schedule → Round → Dispatched
dispatch turns d r = checked_turns (dispatch_checks d r) turns d r
