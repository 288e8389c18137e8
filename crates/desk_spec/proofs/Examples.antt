-- Runs desk by desk, by computation, on tables and a record with old content. Assumes nothing.
use Rattle.std.specs.Prelude.{ℕ, ◌*◌, ◌≡◌, refl, List, ◌∷◌, [], map, ℤ, pos, negsuc, drop, replicate, take}
use Rattle.linear.specs.Sums.{sum_to}
use Rattle.linear.specs.Systems.{inner, value}
use Rattle.linear.specs.Tests.{all_to, any_to, count_to}
use Rattle.linear.specs.Tuples.{total}
use Rattle.definitions.specs.Answers.{Answer, ◌then◌, complete, paused, refuse_first, refuse_with, refused, started}
use Rattle.definitions.specs.Machine.{Outcome, call, checked, unless_done, walk}
use Rattle.definitions.specs.Refusals.{check7}
use Rattle.definitions.specs.Step.{marks_to}
use Rattle.definitions.specs.System.{covered, is_at_or_below, solves}
use Rattle.definitions.specs.Tables.{RunKind, State, bit, capped_run, desk_by_desk, frozen, lower_above, lower_plain, plain_run, write_to}
use Rattle.laws.specs.Pack.{pack_to}
use Rattle.laws.specs.Sweep.{keeps, spoils}
use Rattle.desk_spec.specs.Records.{record_of, state_of}
use Rattle.desk_spec.specs.Desks.{Desk, desk_begin, desk_grown, desk_in_order, desk_listed, desk_resume, desk_resume_checks, desk_row, desk_row_in_order}
use Rattle.desk_spec.specs.Desks.{desk_search_checks, desk_start, desk_start_checks, desk_step, desk_too_large, freed, generators_in_order, raises, settled}
use Rattle.desk_spec.specs.Desks.{swept}
use Rattle.desk_spec.specs.Desks.{wide}

-- what a run comes to: its answer, its rows and what stands past them in the list table, height, steps and the greatest sum
record Summary : Type 0 where
  answer : Answer
  rows : List ℕ
  past : List ℕ
  height : ℕ
  steps : ℕ
  deepest : ℕ

summed : Desk → Outcome State → Summary
summed d o =
    record {
      answer = o.answer;
      rows = take (o.state.run.found * d.q) o.state.list;
      past = drop (o.state.run.found * d.q) o.state.list;
      height = o.state.run.height;
      steps = o.state.run.steps;
      deepest = o.state.run.deepest;
    }

-- a stack table of 40 numbers and a list table, all 9, and a record of some kind
lent : RunKind → ℕ → State
lent k length = state_of (replicate 40 9) (replicate length 9) (record_of k 0 0 9 9)

-- a start, and a continuing call, with a list table of `length` numbers
ran : ℕ → ℕ → Desk → Summary
ran length budget d = summed d (desk_resume budget d (desk_begin d (lent plain_run length)).state)

-- example 4 of the paper, "the system S of the first example, that we can split into the two subsystems": the minimal solutions of -1 1 2 -3, and -1 3 -2 -1
example : Desk
example =
    record {
      p = 1;
      q = 4;
      coefs = negsuc 0 ∷ pos 3 ∷ negsuc 1 ∷ negsuc 0 ∷ [];
      generators = 0 ∷ 0 ∷ 3 ∷ 2 ∷ 0 ∷ 1 ∷ 1 ∷ 1 ∷ 0 ∷ 3 ∷ 0 ∷ 1 ∷ 1 ∷ 0 ∷ 2 ∷ 1 ∷ 2 ∷ 0 ∷ 1 ∷ 0 ∷ 1 ∷ 1 ∷ 0 ∷ 0 ∷ [];
    }

-- "Paths through different loops can meet": the minimal solutions of -1 2 -1, and -2 -1 2; a row above another is listed first, and swept at the end
meeting : Desk
meeting = record { p = 1; q = 3; coefs = negsuc 1 ∷ negsuc 0 ∷ pos 2 ∷ []; generators = 1 ∷ 1 ∷ 1 ∷ 0 ∷ 1 ∷ 2 ∷ 2 ∷ 1 ∷ 0 ∷ [] }

-- the minimal solutions of -1 -1 3, and 1 -1 2: with room for two rows the list is full when the last solution is due, and a sweep frees a row
freeing : Desk
freeing = record { p = 1; q = 3; coefs = pos 1 ∷ negsuc 0 ∷ pos 2 ∷ []; generators = 0 ∷ 3 ∷ 1 ∷ 1 ∷ 2 ∷ 1 ∷ 2 ∷ 1 ∷ 1 ∷ 3 ∷ 0 ∷ 1 ∷ [] }

-- two tuples of which the sum has a component above 1,000,000, though none of theirs is
large : Desk
large = record { p = 1; q = 2; coefs = pos 1 ∷ negsuc 5099 ∷ []; generators = 600000 ∷ 1 ∷ 500000 ∷ 100 ∷ [] }

-- no minimal solution is handed over
nothing : Desk
nothing = record { p = 1; q = 3; coefs = negsuc 1 ∷ negsuc 0 ∷ pos 2 ∷ []; generators = [] }

runs_hold :
    (ran 11 100 example ≡ record { answer = complete; rows = 4 ∷ 2 ∷ 1 ∷ 0 ∷ 0 ∷ 1 ∷ 1 ∷ 1 ∷ []; past = 9 ∷ 9 ∷ 9 ∷ []; height = 0; steps = 19; deepest = 24 })
    × (ran 11 14 meeting ≡ record { answer = paused; rows = 6 ∷ 8 ∷ 10 ∷ 3 ∷ 4 ∷ 5 ∷ []; past = 9 ∷ 9 ∷ 9 ∷ 9 ∷ 9 ∷ []; height = 1; steps = 14; deepest = 24 })
    -- entries past the count after a sweep keep what they held before it
    × (ran 11 100 meeting
    ≡ record { answer = complete; rows = 3 ∷ 4 ∷ 5 ∷ []; past = 3 ∷ 4 ∷ 5 ∷ 9 ∷ 9 ∷ 9 ∷ 9 ∷ 9 ∷ []; height = 0; steps = 15; deepest = 24 })
    × (ran 5 100 meeting ≡ record { answer = refused 11 []; rows = 6 ∷ 8 ∷ 10 ∷ []; past = 9 ∷ 9 ∷ []; height = 2; steps = 12; deepest = 24 })
    × (ran 7 100 freeing ≡ record { answer = complete; rows = 1 ∷ 5 ∷ 2 ∷ []; past = 1 ∷ 5 ∷ 2 ∷ 9 ∷ []; height = 0; steps = 13; deepest = 24 })
    × (ran 4 100 large ≡ record { answer = refused 12 []; rows = []; past = 9 ∷ 9 ∷ 9 ∷ 9 ∷ []; height = 1; steps = 1; deepest = 500100 })
    × (ran 5 0 nothing ≡ record { answer = complete; rows = []; past = 9 ∷ 9 ∷ 9 ∷ 9 ∷ 9 ∷ []; height = 0; steps = 0; deepest = 0 })
unfolding lent ran summed example meeting freeing large nothing pack_to desk_row desk_start raises desk_grown freed desk_listed desk_step keeps spoils swept
    settled desk_too_large desk_search_checks generators_in_order desk_row_in_order desk_in_order wide desk_start_checks desk_resume_checks desk_begin checked
    unless_done walk call check7 refuse_with ◌then◌ refuse_first marks_to covered is_at_or_below solves bit frozen write_to all_to any_to count_to total inner
    value sum_to
runs_hold = (refl, refl, refl, refl, refl, refl, refl)

-- ---- what stays

-- the units, which are the minimal solutions of 0 0 0 0, and -1 1 2 -3: six rows are listed, and those listed before stay where they are
units : Desk
units =
    record {
      p = 1;
      q = 4;
      coefs = negsuc 0 ∷ pos 1 ∷ pos 2 ∷ negsuc 2 ∷ [];
      generators = 0 ∷ 0 ∷ 0 ∷ 1 ∷ 0 ∷ 0 ∷ 1 ∷ 0 ∷ 0 ∷ 1 ∷ 0 ∷ 0 ∷ 1 ∷ 0 ∷ 0 ∷ 0 ∷ [];
    }

-- a start, and a second list with its count and steps of another walk beside
beside : State
beside = let t = (desk_begin units (lent plain_run 24)).state in
    record {
      stack = t.stack;
      list = t.list;
      second = 5 ∷ [];
      run = record { kind = t.run.kind; height = 4; found = 0; steps = 0; found2 = 8; steps2 = 7; deepest = 0 };
    }

record Facts : Type 0 where
  answer : Answer
  list : List ℕ
  second : List ℕ
  found2 : ℕ
  steps2 : ℕ
  deepest : ℕ

of : Outcome State → Facts
of o =
    record {
      answer = o.answer;
      list = o.state.list;
      second = o.state.second;
      found2 = o.state.run.found2;
      steps2 = o.state.run.steps2;
      deepest = o.state.run.deepest;
    }

-- in one call, and paused after 3, 8 and 13 steps: "A paused run goes on in a later call."
calls : List (Outcome State)
calls =
    desk_resume 100 units beside
    ∷ desk_resume 100 units (desk_resume 3 units beside).state
    ∷ desk_resume 100 units (desk_resume 8 units beside).state
    ∷ desk_resume 100 units (desk_resume 13 units beside).state
    ∷ []

all_facts : Facts
all_facts =
    record {
      answer = complete;
      list = 1 ∷ 1 ∷ 0 ∷ 0 ∷ 2 ∷ 0 ∷ 1 ∷ 0 ∷ 0 ∷ 3 ∷ 0 ∷ 1 ∷ 0 ∷ 1 ∷ 1 ∷ 1 ∷ 1 ∷ 0 ∷ 2 ∷ 1 ∷ 0 ∷ 0 ∷ 3 ∷ 2 ∷ [];
      second = 5 ∷ [];
      found2 = 8;
      steps2 = 7;
      deepest = 5;
    }

stays_hold : map of calls ≡ replicate 4 all_facts
unfolding lent units beside of calls all_facts pack_to desk_row desk_start raises desk_grown freed desk_listed desk_step keeps spoils swept settled
    desk_too_large desk_search_checks generators_in_order desk_row_in_order desk_in_order wide desk_start_checks desk_resume_checks desk_begin checked
    unless_done walk call check7 refuse_with ◌then◌ refuse_first marks_to covered is_at_or_below solves bit frozen write_to all_to any_to count_to total inner
    value sum_to
stays_hold = refl

-- a refusal before the walk changes nothing lent: of a list of two rows that a sweep would change, and no stack
refused_state : State
refused_state = state_of [] (1 ∷ 1 ∷ 1 ∷ 1 ∷ 1 ∷ 1 ∷ 1 ∷ 1 ∷ []) (record_of desk_by_desk 0 2 7 8)

leaves_hold : (desk_begin units refused_state ≡ record { answer = refused 4 []; state = refused_state })
    × (desk_resume 9 units refused_state ≡ record { answer = refused 4 []; state = refused_state })
unfolding units refused_state generators_in_order desk_row_in_order desk_in_order wide desk_start_checks desk_resume_checks desk_begin keeps spoils swept
    is_at_or_below pack_to write_to checked call check7 refuse_with ◌then◌ refuse_first all_to any_to count_to
leaves_hold = (refl, refl)

-- ---- the sweep

-- of 2 0, 1 1, 2 0, 0 3, 1 2 the third repeats the first and the fifth lies above the second: the others stay, in their order, and past them the table holds
-- what it held
sweeping : State
sweeping = state_of [] (2 ∷ 0 ∷ 1 ∷ 1 ∷ 2 ∷ 0 ∷ 0 ∷ 3 ∷ 1 ∷ 2 ∷ 9 ∷ []) (record_of desk_by_desk 0 5 7 8)

sweep_holds : swept 2 sweeping ≡ state_of [] (2 ∷ 0 ∷ 1 ∷ 1 ∷ 0 ∷ 3 ∷ 0 ∷ 3 ∷ 1 ∷ 2 ∷ 9 ∷ []) (record_of desk_by_desk 0 3 7 8)
unfolding sweeping swept pack_to keeps spoils is_at_or_below write_to all_to any_to count_to
sweep_holds = refl

-- ---- the marks

-- generators 1 to n of one unknown, each 1
ones : ℕ → List ℤ → Desk
ones n coefs = record { p = 1; q = 1; coefs = coefs; generators = replicate n 1 }

-- "two numbers a row, loops 1 to 32 in the first": of the rows of 34 generators, row 33 has marks 1 to 32 and row 34 marks 1 to 33
marks_hold : take 6 (drop 96 (desk_start (ones 34 []) (state_of (replicate 105 9) [] (record_of plain_run 9 9 9 9))).stack)
    ≡ 1 ∷ 4294967295 ∷ 0 ∷ 1 ∷ 4294967295 ∷ 1 ∷ []
unfolding ones desk_start pack_to desk_row write_to count_to
marks_hold = refl

-- ---- the refusals before the walk

-- what a start answers, and what a continuing call does on tables and a record of its own kind, 195 numbers in the stack table
start_answer : Desk → Answer
start_answer d = (desk_begin d (state_of (replicate 195 9) [] (record_of plain_run 9 9 9 9))).answer

resume_answer : RunKind → Desk → Answer
resume_answer k d = (desk_resume 1 d (state_of (replicate 195 9) [] (record_of k 0 0 9 9))).answer

refusals_hold :
    -- "more than 64 loops": 64 start, 65 are 25, which comes after 7
    (start_answer (ones 64 (pos 1 ∷ [])) ≡ started)
    × (start_answer (ones 65 (pos 1 ∷ [])) ≡ refused 25 [])
    × (start_answer (ones 65 (pos 10001 ∷ [])) ≡ refused 7 (1 ∷ []))
    -- "a second-group image of one above 7,000,000 in size"
    × (start_answer (record { p = 1; q = 1; coefs = pos 10000 ∷ []; generators = 700 ∷ [] }) ≡ started)
    × (start_answer (record { p = 1; q = 1; coefs = negsuc 9999 ∷ []; generators = 701 ∷ [] }) ≡ refused 25 [])
    -- "in a loop handed over 6, at the start too"; "4 asks for as many stack rows as loops"; "3 covers loops that are not whole rows"
    × (start_answer (record { p = 1; q = 1; coefs = pos 10001 ∷ []; generators = 1000001 ∷ [] }) ≡ refused 6 [])
    × (start_answer (ones 66 (pos 10001 ∷ [])) ≡ refused 4 [])
    × (start_answer (record { p = 1; q = 2; coefs = pos 1 ∷ pos 1 ∷ []; generators = 1 ∷ 1 ∷ 1 ∷ [] }) ≡ refused 3 [])
    -- "A record of one kind of run (plain, capped, floor, desk by desk) given to a continuing call of another kind is 6.": all else is in order
    × (resume_answer desk_by_desk (ones 2 (pos 1 ∷ [])) ≡ complete)
    × (resume_answer plain_run (ones 2 (pos 1 ∷ [])) ≡ refused 6 [])
    × (resume_answer capped_run (ones 2 (pos 1 ∷ [])) ≡ refused 6 [])
    × (resume_answer lower_plain (ones 2 (pos 1 ∷ [])) ≡ refused 6 [])
    × (resume_answer lower_above (ones 2 (pos 1 ∷ [])) ≡ refused 6 [])
    × (resume_answer desk_by_desk (ones 65 (pos 1 ∷ [])) ≡ refused 25 [])
unfolding ones start_answer resume_answer keeps spoils swept pack_to settled desk_start generators_in_order desk_row_in_order desk_in_order wide
    desk_start_checks desk_resume_checks desk_begin checked unless_done walk call check7 refuse_with ◌then◌ refuse_first is_at_or_below write_to all_to any_to
    count_to inner value sum_to
refusals_hold = (refl, refl, refl, refl, refl, refl, refl, refl, refl, refl, refl, refl, refl, refl)
