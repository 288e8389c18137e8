-- What the starred runs do not show of the definitions, by computation: that six rows listed stay as they are, and with them the count of a second list and the
-- greatest sum; how many steps a call takes, and that a paused run goes on to the same end; five unknowns; a plain run to a component above 20; refusals 12
-- and 14 after several steps; a lower bound of four zeros; rows out of order by their marks; and the reader of one list where there is no row. Assumes
-- nothing.
use Rattle.std.specs.Prelude.{ℕ, ◌-◌, ◌≡◌, refl, List, ◌∷◌, [], map, ℤ, pos, negsuc, length, replicate, take}
use Rattle.linear.specs.Sums.{sum_to}
use Rattle.linear.specs.Tests.{all_to, any_to, count_to}
use Rattle.linear.specs.Tuples.{total, unit}
use Rattle.linear.specs.Systems.{inner, value}
use Rattle.definitions.specs.Answers.{Answer, complete, go, refuse, refused, refuse_with, ◌then◌, refuse_first}
use Rattle.definitions.specs.System.{covered, is_at_or_below, solves}
use Rattle.definitions.specs.Input.{Input, input_of}
use Rattle.definitions.specs.Tables.{State, bit, desk_by_desk, frozen, lower_start, lowered, plain_run, units_start, units_to, write_row, write_to}
use Rattle.definitions.specs.Step.{grown, listed, makes, marks_to, step, write_children}
use Rattle.definitions.specs.Refusals.{check7, in_order, in_order_from, lower_checks, resume_checks, resume_from_checks, row_fits, search_checks, start_checks}
use Rattle.definitions.specs.Refusals.{step_limit, too_large}
use Rattle.definitions.specs.Machine.{Outcome, call, call_steps, checked, moved, steps_if, unless_done, walk, walk_steps}
use Rattle.definitions.specs.Calls.{resume, resume_from, resume_steps, search_from, settle_from, start, start_from, step_from}
use Rattle.definitions.specs.Reader.{has_row, none, refused as refused_row, row_part, show_if, shown, shown_by}

one : List ℤ → Input
one coefs = input_of 1 (length coefs) coefs

-- tables with old content
lent : State
lent =
    record {
      stack = replicate 20 9;
      list = replicate 24 9;
      second = replicate 24 9;
      run = record { kind = desk_by_desk; height = 9; found = 9; steps = 9; found2 = 9; steps2 = 9; deepest = 9 };
    }

-- −1 1 2 −3: "the six solutions of example 4", in 17 steps
six : Input
six = one (negsuc 0 ∷ pos 1 ∷ pos 2 ∷ negsuc 2 ∷ [])

begun : State
begun = (start six lent).state

rows : List ℕ
rows =
    0 ∷ 0 ∷ 3 ∷ 2 ∷ 0 ∷ 1 ∷ 1 ∷ 1 ∷ 0 ∷ 3 ∷ 0 ∷ 1 ∷ 1 ∷ 0 ∷ 2 ∷ 1 ∷ 2 ∷ 0 ∷ 1 ∷ 0 ∷ 1 ∷ 1 ∷ 0 ∷ 0 ∷ []

-- the same, one step before 1,000,000,000,000
late : State
late =
    record {
      stack = begun.stack;
      list = begun.list;
      second = begun.second;
      run = record { kind = begun.run.kind; height = begun.run.height; found = 0; steps = step_limit - 1; found2 = 0; steps2 = 0; deepest = 0 };
    }

-- from a lower bound, to its end
above : Input → List ℕ → Outcome State
above i lower = resume_from 1000 lower i (start_from lower i lent).state

record Facts : Type 0 where
  -- the rows listed, and what is none of a plain run's: the count of a second list, and the steps of another walk
  answer : Answer
  list : List ℕ
  found2 : ℕ
  steps2 : ℕ
  -- the greatest sum of the tuples taken off, which is D here
  deepest : ℕ
  -- the steps taken on allowances 7 and 1000
  taken : List ℕ
  -- 14 after one step, and 12 after three steps above a lower bound
  fourteen : Answer
  steps : ℕ
  twelve : Answer
  above_steps : ℕ
  -- from floor 0 0 0 0
  zeros : List ℕ

abbrev of : Outcome State → Outcome State → Outcome State → Outcome State → Facts
of o l u z =
    record {
      answer = o.answer;
      list = o.state.list;
      found2 = o.state.run.found2;
      steps2 = o.state.run.steps2;
      deepest = o.state.run.deepest;
      taken = resume_steps 7 six begun ∷ resume_steps 1000 six begun ∷ [];
      fourteen = l.answer;
      steps = l.state.run.steps;
      twelve = u.answer;
      above_steps = u.state.run.steps;
      zeros = z.state.run.found ∷ z.state.list;
    }

facts_hold : of (resume 1000 six begun) (resume 5 six late) (above (one (pos 2 ∷ negsuc 0 ∷ [])) (1000000 ∷ 999997 ∷ []))
    (above six (0 ∷ 0 ∷ 0 ∷ 0 ∷ []))
    ≡ record {
      answer = complete;
      list = rows;
      found2 = 0;
      steps2 = 0;
      deepest = 5;
      taken = 7 ∷ 17 ∷ [];
      fourteen = refused 14 [];
      steps = step_limit;
      twelve = refused 12 [];
      above_steps = 3;
      zeros = 1 ∷ 0 ∷ 0 ∷ 0 ∷ 0 ∷ replicate 20 9;
    }
unfolding one lent six begun rows late above sum_to inner value unit total all_to any_to count_to refuse_with ◌then◌ refuse_first solves is_at_or_below covered
    bit frozen write_to write_row units_to units_start lower_start lowered makes marks_to write_children listed grown step row_fits in_order in_order_from
    check7 start_checks lower_checks resume_checks resume_from_checks too_large search_checks checked start start_from settle_from search_from step_from
    unless_done walk call call_steps walk_steps moved steps_if
facts_hold = refl

-- ---- "A paused run goes on in a later call.", wherever it was paused: to the list of the run in one call

on_from : ℕ → Outcome State
on_from n = resume 1000 six (resume n six begun).state

ended : ℕ → Answer × List ℕ
ended n = ((on_from n).answer, (on_from n).state.list)

later_holds : map ended (1 ∷ 3 ∷ 5 ∷ 7 ∷ 9 ∷ 11 ∷ 13 ∷ 15 ∷ []) ≡ replicate 8 (complete, rows)
unfolding one lent six begun rows on_from ended sum_to inner value unit total all_to any_to count_to refuse_with ◌then◌ refuse_first solves is_at_or_below
    covered bit frozen write_to write_row units_to units_start makes marks_to write_children listed grown step row_fits in_order check7 start_checks
    resume_checks too_large search_checks checked start unless_done walk call
later_holds = refl

-- ---- 1 1 1 1 −1: five unknowns, so that a step from the top of the stack has four rows below it, all of which are taken off as they were written

wide : Outcome State
wide = resume 1000 (one (pos 1 ∷ pos 1 ∷ pos 1 ∷ pos 1 ∷ negsuc 0 ∷ [])) (start (one (pos 1 ∷ pos 1 ∷ pos 1 ∷ pos 1 ∷ negsuc 0 ∷ [])) roomy).state
  where
    roomy : State
    roomy = record { stack = replicate 30 9; list = replicate 20 9; second = []; run = lent.run }

wide_holds : (wide.answer ≡ complete)
    × (wide.state.list ≡ 0 ∷ 0 ∷ 0 ∷ 1 ∷ 1 ∷ 0 ∷ 0 ∷ 1 ∷ 0 ∷ 1 ∷ 0 ∷ 1 ∷ 0 ∷ 0 ∷ 1 ∷ 1 ∷ 0 ∷ 0 ∷ 0 ∷ 1 ∷ [])
unfolding one lent wide sum_to inner value unit total all_to any_to count_to refuse_with ◌then◌ refuse_first solves is_at_or_below covered bit frozen write_to
    write_row units_to units_start makes marks_to write_children listed grown step row_fits in_order check7 start_checks resume_checks too_large search_checks
    checked start unless_done walk call
wide_holds = (refl, refl)

-- ---- 30 −1: a component above the training seat's limit, and no refusal

far : Outcome State
far = resume 1000 (one (pos 30 ∷ negsuc 0 ∷ [])) (start (one (pos 30 ∷ negsuc 0 ∷ [])) lent).state

far_holds : (far.answer ≡ complete) × (take 2 far.state.list ≡ 1 ∷ 30 ∷ []) × (far.state.run.found ≡ 1) × (far.state.run.deepest ≡ 31)
unfolding one lent far sum_to inner value unit total all_to any_to count_to refuse_with ◌then◌ refuse_first solves is_at_or_below covered bit
    frozen write_to write_row units_to units_start makes marks_to write_children listed grown step row_fits in_order check7 start_checks resume_checks too_large
    search_checks checked start unless_done walk call
far_holds = (refl, refl, refl, refl)

-- ---- "a mark beyond unknown q, or a mark count other than k − 1 in row k": rows 0 1 and then 1 0 with these marks

marked : ℕ → ℕ → State
marked a b =
    record {
      stack = 0 ∷ 1 ∷ a ∷ 1 ∷ 0 ∷ b ∷ [];
      list = [];
      second = [];
      run = record { kind = plain_run; height = 2; found = 0; steps = 0; found2 = 0; steps2 = 0; deepest = 0 };
    }

marks_hold : map (λ s. resume_checks (one (pos 2 ∷ negsuc 2 ∷ [])) s) (marked 0 1 ∷ marked 0 2 ∷ marked 0 0 ∷ marked 0 3 ∷ marked 0 4 ∷ marked 1 1 ∷ [])
    ≡ go ∷ go ∷ replicate 4 (refuse 6 [])
unfolding one marked all_to any_to count_to refuse_with ◌then◌ refuse_first bit frozen row_fits in_order check7 resume_checks
marks_hold = refl

-- "A reader for q outside 1 to 16 is refused with 2."; "there is none at 0, past the found count or past the room"
reader_holds : (shown 0 rows 6 1 ≡ refused_row 2 []) × (shown 17 rows 6 1 ≡ refused_row 2 []) × (shown 4 rows 6 0 ≡ none) × (shown 4 rows 2 3 ≡ none)
    × (shown 4 rows 7 7 ≡ none)
unfolding rows shown shown_by refuse_with show_if has_row row_part
reader_holds = (refl, refl, refl, refl, refl)
