-- Document 02, Job 9: "A cheaper seat uses the same solver with at most 6 unknowns and components up to 20. It is a layer of its own above the core, which
-- takes the component limit with each call". Assumes nothing.
use Rattle.std.specs.Prelude.{ℕ, not, ◌&&◌, List, eqb, ltb, ℤ}
use Rattle.definitions.specs.Answers.{Check, ◌then◌, refuse_if, started}
use Rattle.definitions.specs.Calls.{settle_from, step_from}
use Rattle.definitions.specs.Input.{Input, above_system, alone, input_with, map_of, system_of}
use Rattle.definitions.specs.Machine.{Machine, Outcome, call, call_steps, checked}
use Rattle.definitions.specs.Refusals.{check1, check4, check5, check6, check6_from, check7, check8, numbers_check, step_limit, too_large, unknowns_check}
use Rattle.definitions.specs.Step.{full_for, step, top}
use Rattle.definitions.specs.System.{System, solves}
use Rattle.definitions.specs.Tables.{State, by_walk, lower_start, plain_part, units_start}

-- "at most 6 unknowns and components up to 20"
abbrev pub seat_unknowns : ℕ
seat_unknowns = 6

abbrev pub seat_limit : ℕ
seat_limit = 20

-- a map at this seat
abbrev pub seat_input : ℕ → ℕ → List ℤ → Input
seat_input p q coefs = input_with alone seat_limit p q coefs

-- "23, more than 6 unknowns"
abbrev pub check23 : Input → Check
check23 i = refuse_if (ltb seat_unknowns i.q) 23

-- "straight after 2"
abbrev pub seat_then : Input → State → Check → Check
seat_then i s own = check1 i then unknowns_check i then check23 i then numbers_check i then check4 (system_of i) s then own

unfoldable pub seat_start_checks : Input → State → Check
seat_start_checks i s = seat_then i s (check7 i)

-- "a floor above 20 is 8"
unfoldable pub seat_lower_checks : List ℕ → Input → State → Check
seat_lower_checks lower i s = seat_then i s (check5 i lower then check7 i then check8 i lower)

-- "a row above 20 in a continued run is 6"
unfoldable pub seat_resume_checks : Input → State → Check
seat_resume_checks i s = seat_then i s (check6 (system_of i) s then check7 i)

-- "24, a child would pass 20, in the place of 12"
unfoldable pub seat_search : System → State → Check
seat_search m s =
    refuse_if (eqb s.run.steps step_limit) 14
    then refuse_if (solves m (top m s) && full_for m.kind m.q s (top m s)) 11
    then refuse_if (not (solves m (top m s)) && too_large m s) 24

-- of a run from a lower bound: a row above 20 is 6 in either walk, a bound above 20 is 8, and 24 is about the walk under way
unfoldable pub seat_resume_from_checks : List ℕ → Input → State → Check
seat_resume_from_checks lower i s = seat_then i s (check5 i lower then check6_from lower i s then check7 i then check8 i lower)

unfoldable pub seat_search_from : List ℕ → Input → State → Check
seat_search_from lower i s = by_walk s.run.kind (seat_search (map_of i) (plain_part s)) (seat_search (above_system lower i) s)

-- ---- the calls

unfoldable pub seat_start : Input → State → Outcome State
seat_start i s = checked (seat_start_checks i s) s (λ t. record { answer = started; state = units_start (system_of i) t })

unfoldable pub seat_start_from : List ℕ → Input → State → Outcome State
seat_start_from lower i s = checked (seat_lower_checks lower i s) s (λ t. record { answer = started; state = lower_start (map_of i) t })

-- what its continuing call goes by: the core's step
abbrev pub seat_machine : Input → Machine State
seat_machine i =
    record {
      before = seat_resume_checks i;
      settle = λ s. s;
      height = λ s. s.run.height;
      refusals = seat_search (system_of i);
      step = step (system_of i);
    }

abbrev pub seat_resume : ℕ → Input → State → Outcome State
seat_resume budget i s = call budget (seat_machine i) s

abbrev pub seat_steps : ℕ → Input → State → ℕ
seat_steps budget i s = call_steps budget (seat_machine i) s

abbrev pub seat_machine_from : List ℕ → Input → Machine State
seat_machine_from lower i =
    record {
      before = seat_resume_from_checks lower i;
      settle = settle_from lower i;
      height = λ s. s.run.height;
      refusals = seat_search_from lower i;
      step = step_from lower i;
    }

abbrev pub seat_resume_from : ℕ → List ℕ → Input → State → Outcome State
seat_resume_from budget lower i s = call budget (seat_machine_from lower i) s

abbrev pub seat_steps_from : ℕ → List ℕ → Input → State → ℕ
seat_steps_from budget lower i s = call_steps budget (seat_machine_from lower i) s
