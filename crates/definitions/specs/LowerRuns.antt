-- Runs from a lower bound, by computation (document 02, Job 4): "Rows 2 −2 1 and 0 0 1 from floor 0 0 1 have no solution .. The example ends with an empty list
-- after 2 floor steps."; pauses in either walk and at the change between them; 11 in either list, 12 and 14 of the walk under way. The greatest sum stays 0
-- until the change. Each is begun on tables and a record with old content. Assumes nothing.
use Rattle.std.specs.Prelude.{ℕ, ◌*◌, ◌≡◌, refl, List, ◌∷◌, [], pos, negsuc, replicate, take}
use Rattle.linear.specs.Sums.{sum_to}
use Rattle.linear.specs.Tests.{all_to, any_to, count_to}
use Rattle.linear.specs.Tuples.{total, unit}
use Rattle.linear.specs.Systems.{inner, value}
use Rattle.definitions.specs.Answers.{Answer, Check, ◌then◌, complete, go, paused, refuse, refuse_first, refuse_with, refused}
use Rattle.definitions.specs.System.{covered, is_at_or_below, solves}
use Rattle.definitions.specs.Input.{Input, input_of}
use Rattle.definitions.specs.Tables.{Record, RunKind, State, bit, capped_run, desk_by_desk, frozen, lower_above, lower_plain, lower_start, lowered, plain_run}
use Rattle.definitions.specs.Tables.{units_to, write_row, write_to}
use Rattle.definitions.specs.Step.{grown, listed, makes, marks_to, step, write_children}
use Rattle.definitions.specs.Refusals.{check7, in_order, in_order_from, lower_checks, resume_checks, resume_from_checks, row_fits, search_checks, too_large}
use Rattle.definitions.specs.Machine.{Outcome, call, checked, unless_done, walk}
use Rattle.definitions.specs.Calls.{resume_from, search_from, settle_from, start_from, step_from}

-- the answer, the walk under way, the rows of the list and of the second list, height, the steps of the walk above the bound and of the plain one, and the
-- greatest sum
record Summary : Type 0 where
  answer : Answer
  walk : RunKind
  rows : List ℕ
  plain : List ℕ
  height : ℕ
  steps : ℕ
  before : ℕ
  deepest : ℕ

lent : ℕ → ℕ → State
lent room room₂ =
    record {
      stack = replicate 13 9;
      list = replicate room 9;
      second = replicate room₂ 9;
      run = record { kind = desk_by_desk; height = 9; found = 9; steps = 9; found2 = 9; steps2 = 9; deepest = 9 };
    }

summed : ℕ → Outcome State → Summary
summed q o =
    record {
      answer = o.answer;
      walk = o.state.run.kind;
      rows = take (o.state.run.found * q) o.state.list;
      plain = take (o.state.run.found2 * q) o.state.second;
      height = o.state.run.height;
      steps = o.state.run.steps;
      before = o.state.run.steps2;
      deepest = o.state.run.deepest;
    }

ran : ℕ → ℕ → ℕ → List ℕ → Input → Summary
ran budget room room₂ lower i = summed i.q (resume_from budget lower i (start_from lower i (lent room room₂)).state)

comes : Answer → RunKind → List ℕ → List ℕ → ℕ → ℕ → ℕ → ℕ → Summary
comes answer walk rows plain height steps before deepest =
    record { answer = answer; walk = walk; rows = rows; plain = plain; height = height; steps = steps; before = before; deepest = deepest }

two_rows : Input
two_rows = input_of 2 3 (pos 2 ∷ negsuc 1 ∷ pos 1 ∷ pos 0 ∷ pos 0 ∷ pos 1 ∷ [])

one_one : Input
one_one = input_of 1 2 (pos 1 ∷ negsuc 0 ∷ [])

-- 1 −1 from 0 2: the plain walk takes 3 steps, the walk above the bound 3 more
runs : List Summary
runs =
    ran 100 9 9 (0 ∷ 0 ∷ 1 ∷ []) two_rows
    ∷ ran 100 4 4 (0 ∷ 2 ∷ []) one_one
    ∷ ran 2 4 4 (0 ∷ 2 ∷ []) one_one
    ∷ ran 3 4 4 (0 ∷ 2 ∷ []) one_one
    ∷ ran 4 4 4 (0 ∷ 2 ∷ []) one_one
    ∷ ran 100 1 4 (0 ∷ 2 ∷ []) one_one
    ∷ ran 100 4 1 (0 ∷ 2 ∷ []) one_one
    ∷ ran 100 4 4 (1000000 ∷ 999999 ∷ []) (input_of 1 2 (pos 2 ∷ negsuc 0 ∷ []))
    ∷ []

expected : List Summary
expected =
    comes complete lower_above [] (1 ∷ 1 ∷ 0 ∷ []) 0 2 5 2
    ∷ comes complete lower_above (2 ∷ 2 ∷ []) (1 ∷ 1 ∷ []) 0 3 3 4
    ∷ comes paused lower_plain [] [] 1 0 2 0
    ∷ comes paused lower_above [] (1 ∷ 1 ∷ []) 1 0 3 0
    ∷ comes paused lower_above [] (1 ∷ 1 ∷ []) 1 1 3 2
    ∷ comes (refused 11 []) lower_above [] (1 ∷ 1 ∷ []) 1 2 3 3
    ∷ comes (refused 11 []) lower_plain [] [] 1 0 2 0
    ∷ comes (refused 12 []) lower_above [] (1 ∷ 2 ∷ []) 1 1 4 1999999
    ∷ []

runs_hold : runs ≡ expected
unfolding runs expected lent summed ran comes two_rows one_one sum_to inner value unit total all_to any_to count_to refuse_with ◌then◌ refuse_first solves
    is_at_or_below covered bit frozen write_to write_row units_to lower_start lowered makes marks_to write_children listed grown step row_fits in_order
    in_order_from check7 lower_checks resume_from_checks too_large search_checks checked start_from settle_from search_from step_from unless_done walk call
runs_hold = refl

-- ---- refusals

-- a first row of two components and no marks, lists with room for one row each, and a record
standing : ℕ → ℕ → Record → State
standing a b r = record { stack = a ∷ b ∷ 0 ∷ 9 ∷ 9 ∷ 9 ∷ []; list = 9 ∷ 9 ∷ 9 ∷ []; second = 9 ∷ 9 ∷ 9 ∷ []; run = r }

named : RunKind → ℕ → ℕ → ℕ → ℕ → Record
named kind found steps found2 steps2 =
    record { kind = kind; height = 1; found = found; steps = steps; found2 = found2; steps2 = steps2; deepest = 0 }

asked : State → Check
asked = resume_from_checks (0 ∷ 2 ∷ []) one_one

-- "6 covers a floor-walk row not at or above the floor", each list's count and each walk's steps; "A record of one kind of run .. given to a continuing call
-- of another kind"
in_order_holds : (asked (standing 0 2 (named lower_above 1 1000000000000 1 1000000000000)) ≡ go)
    × (asked (standing 0 1 (named lower_above 0 0 0 0)) ≡ refuse 6 [])
    × (asked (standing 0 1 (named lower_plain 1 1000000000000 1 1000000000000)) ≡ go)
    × (asked (standing 0 2 (named lower_above 2 0 0 0)) ≡ refuse 6 [])
    × (asked (standing 0 2 (named lower_above 0 0 2 0)) ≡ refuse 6 [])
    × (asked (standing 0 2 (named lower_above 0 0 0 1000000000001)) ≡ refuse 6 [])
    × (asked (standing 0 2 (named lower_plain 2 0 0 0)) ≡ refuse 6 [])
    × (asked (standing 0 2 (named lower_plain 0 0 2 0)) ≡ refuse 6 [])
    × (asked (standing 0 2 (named lower_plain 0 1000000000001 0 0)) ≡ refuse 6 [])
    × (asked (standing 0 2 (named plain_run 0 0 0 0)) ≡ refuse 6 [])
    × (asked (standing 0 2 (named capped_run 0 0 0 0)) ≡ refuse 6 [])
    × (resume_checks one_one (standing 0 2 (named lower_plain 0 0 0 0)) ≡ refuse 6 [])
    × (resume_checks one_one (standing 0 2 (named lower_above 0 0 0 0)) ≡ refuse 6 [])
unfolding standing named asked one_one all_to any_to count_to refuse_with ◌then◌ refuse_first is_at_or_below bit frozen row_fits in_order in_order_from check7
    resume_checks resume_from_checks
in_order_holds = (refl, refl, refl, refl, refl, refl, refl, refl, refl, refl, refl, refl, refl)

-- "14 is about the walk under way": the steps of the other may stand at 1,000,000,000,000
fourteen : Record → Answer
fourteen r = (resume_from 1 (0 ∷ 2 ∷ []) one_one (standing 0 2 r)).answer

fourteen_holds : (fourteen (named lower_plain 0 0 0 1000000000000) ≡ refused 14 [])
    × (fourteen (named lower_plain 0 1000000000000 0 0) ≡ paused)
    × (fourteen (named lower_above 0 1000000000000 0 0) ≡ refused 14 [])
    × (fourteen (named lower_above 0 0 0 1000000000000) ≡ paused)
unfolding standing named fourteen one_one sum_to inner value unit total all_to any_to count_to refuse_with ◌then◌ refuse_first solves is_at_or_below covered bit
    frozen write_to write_row lowered makes marks_to write_children listed grown step row_fits in_order in_order_from check7 resume_from_checks too_large
    search_checks checked settle_from search_from step_from unless_done walk call
fourteen_holds = (refl, refl, refl, refl)

-- in rising number: 5, 6, 7, 8
numbers_hold : (resume_from_checks (0 ∷ []) (input_of 1 2 (pos 1 ∷ pos 10001 ∷ [])) (standing 0 2 (named plain_run 0 0 0 0)) ≡ refuse 5 [])
    × (resume_from_checks (0 ∷ 1000001 ∷ []) (input_of 1 2 (pos 1 ∷ pos 10001 ∷ [])) (standing 0 2 (named plain_run 0 0 0 0)) ≡ refuse 6 [])
    × (resume_from_checks (0 ∷ 1000001 ∷ []) (input_of 1 2 (pos 1 ∷ pos 10001 ∷ [])) (standing 0 2 (named lower_plain 0 0 0 0)) ≡ refuse 7 (2 ∷ []))
    × (resume_from_checks (0 ∷ 1000001 ∷ []) one_one (standing 0 2 (named lower_plain 0 0 0 0)) ≡ refuse 8 [])
    × (lower_checks (0 ∷ 1000001 ∷ []) one_one (standing 0 2 (named plain_run 0 0 0 0)) ≡ refuse 8 [])
unfolding standing named one_one all_to any_to count_to refuse_with ◌then◌ refuse_first is_at_or_below bit frozen row_fits in_order in_order_from check7
    lower_checks resume_from_checks
numbers_hold = (refl, refl, refl, refl, refl)
