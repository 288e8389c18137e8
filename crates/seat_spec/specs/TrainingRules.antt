-- The refusals of the training seat as rules in words and order; and that its calls are the core's under the seat's limit, behind 1, 2 and 23, with 24 for 12.
-- Assumes nothing.
use Rattle.std.specs.Prelude.{◌≡◌, ◌≢◌, Bool, true, false, List, T, eqb, ℤ, get_or, length}
use Prim.Native.Nat.{ℕ, ◌+◌, ◌*◌, ◌<◌}
use Rattle.linear.specs.Systems.{Fails, Solution}
use Rattle.definitions.specs.Answers.{Answer, Check, ◌then◌, complete, go, paused, refuse, refused, started}
use Rattle.definitions.specs.Input.{Input, above_system, limit_of, map_of, system_of}
use Rattle.definitions.specs.Machine.{Outcome}
use Rattle.definitions.specs.Refusals.{check1, most_for}
use Rattle.definitions.specs.Refusals.{step_limit, unknowns_check}
use Rattle.definitions.specs.Step.{makes, top}
use Rattle.definitions.specs.System.{System, coef, most_equations}
use Rattle.definitions.specs.Tables.{State, plain_part}
use Rattle.laws.specs.CheckLaws.{Rules, ◌▹◌, end, rule}
use Rattle.laws.specs.LowerLaws.{OutOfOrderFrom, rules_by}
use Rattle.laws.specs.RefusalLaws.{Misnumbered, NoRoom, OutOfOrder, Outside}
use Rattle.laws.specs.RefusalLaws.{range_rule}
use Rattle.seat_spec.specs.Training.{check23, seat_input}
use Rattle.seat_spec.specs.Training.{seat_unknowns}

-- ---- the rules

-- each call checks 1, 2, 23, 3 and 4, and then what is its own
abbrev pub seat_rules : Input → State → Rules → Rules
seat_rules i s own =
    rule 1 (Outside 1 most_equations i.p)
    ▹ rule 2 (Outside 1 (most_for i.extra) i.q)
    ▹ rule 23 (seat_unknowns < i.q)
    ▹ rule 3 (Misnumbered i.extra i)
    ▹ rule 4 (length s.stack < (system_of i).q * ((system_of i).q + 1))
    ▹ own

abbrev pub seat_start_rules : Input → State → Rules
seat_start_rules i s = seat_rules i s (range_rule i ▹ end)

abbrev pub seat_lower_rules : List ℕ → Input → State → Rules
seat_lower_rules lower i s =
    seat_rules i s (rule 5 (length lower ≢ i.q) ▹ range_rule i ▹ rule 8 ((j : ℕ) × (j < length lower) × (limit_of i.limit < get_or lower j 0)) ▹ end)

abbrev pub seat_resume_rules : Input → State → Rules
seat_resume_rules i s = seat_rules i s (rule 6 (OutOfOrder (system_of i) s) ▹ range_rule i ▹ end)

-- "24, a child would pass 20, in the place of 12"
abbrev pub seat_search_rules : System → State → Rules
seat_search_rules m s =
    rule 14 (s.run.steps ≡ step_limit)
    ▹ rule 11 (Solution m.p m.q (coef m) (top m s) × NoRoom m.kind m.q s (top m s))
    ▹ rule 24 (Fails m.p m.q (coef m) (top m s) × (j : ℕ) × (j < m.q) × T (makes m s j) × (top m s j ≡ m.limit))
    ▹ end

-- the same of a run from a lower bound
abbrev pub seat_resume_from_rules : List ℕ → Input → State → Rules
seat_resume_from_rules lower i s =
    seat_rules i s
    (rule 5 (length lower ≢ i.q)
    ▹ rule 6 (OutOfOrderFrom lower i s)
    ▹ range_rule i
    ▹ rule 8 ((j : ℕ) × (j < length lower) × (limit_of i.limit < get_or lower j 0))
    ▹ end)

abbrev pub seat_search_from_rules : List ℕ → Input → State → Rules
seat_search_from_rules lower i s = rules_by s.run.kind (seat_search_rules (map_of i) (plain_part s)) (seat_search_rules (above_system lower i) s)

-- ---- the calls are the core's

-- 24 for 12
abbrev pub pick : Bool → ℕ → ℕ
pick true n = 24
pick false n = n

abbrev pub renumber : Answer → Answer
renumber started = started
renumber complete = complete
renumber paused = paused
renumber (refused n values) = refused (pick (eqb n 12) n) values

abbrev pub renumber_check : Check → Check
renumber_check (refuse n values) = refuse (pick (eqb n 12) n) values
renumber_check go = go

abbrev pub renumbered : Outcome State → Outcome State
renumbered o = record { answer = renumber o.answer; state = o.state }

-- what the seat asks ahead of all else
abbrev pub seat_first : Input → Check
seat_first i = check1 i then unknowns_check i then check23 i

module _ (p q : ℕ) (coefs : List ℤ) where
  abbrev pub i : Input
  i = seat_input p q coefs
