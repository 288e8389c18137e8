-- From end to end on example 4 of the paper and one equation more: a plain run on -1 1 2 -3, the second walk on -1 3 -2 -1 from its list, a third on 1 0 0 -4
-- from the list of the first two. Assumes nothing.
use Rattle.std.specs.Prelude.{◌*◌, ◌≡◌, refl, ◌∷◌, [], pos, negsuc, replicate, take}
use Rattle.linear.specs.Sums.{sum_to}
use Rattle.linear.specs.Systems.{inner, value}
use Rattle.linear.specs.Tests.{all_to, any_to, count_to}
use Rattle.linear.specs.Tuples.{total, unit}
use Rattle.definitions.specs.Answers.{◌then◌, refuse_first, refuse_with}
use Rattle.definitions.specs.Calls.{resume, start}
use Rattle.definitions.specs.Input.{Input, input_of, system_of}
use Rattle.definitions.specs.Machine.{call, checked, unless_done, walk}
use Rattle.definitions.specs.Refusals.{check7, in_order, resume_checks, row_fits, search_checks, start_checks, too_large}
use Rattle.definitions.specs.Step.{grown, listed, makes, marks_to, step, write_children}
use Rattle.definitions.specs.System.{MinimalSolution, covered, is_at_or_below, solves}
use Rattle.definitions.specs.Tables.{State, begun, bit, frozen, plain_run, units_start, units_to, write_row, write_to}
use Rattle.laws.specs.Pack.{pack_to}
use Rattle.laws.specs.Sweep.{keeps, spoils}
use Rattle.theorems.specs.Listed.{Exactly}
use Rattle.theorems.specs.Run.{started_units}
use Rattle.desk_spec.specs.Records.{record_of, state_of}
use Rattle.desk_spec.specs.Desks.{Desk, desk_begin, desk_grown, desk_in_order, desk_listed, desk_resume, desk_resume_checks, desk_row, desk_row_in_order}
use Rattle.desk_spec.specs.Desks.{desk_search_checks}
use Rattle.desk_spec.specs.Desks.{desk_start, desk_start_checks, desk_step, desk_too_large, freed, generators_in_order, raises, settled, swept, wide}
use Rattle.desk_spec.specs.Groups.{FirstGroup, both_groups}
use Rattle.desk_spec.specs.Promises.{WholeList}
use Rattle.desk_spec.proofs.Promises.{first_then_second, second_demand_desks, second_then_third}
use Rattle.desk_spec.specs.Runs.{begun as desk_begun}

-- ---- the first desk

first : Input
first = input_of 1 4 (negsuc 0 ∷ pos 1 ∷ pos 2 ∷ negsuc 2 ∷ [])

lent : State
lent = record { stack = replicate 21 9; list = replicate 30 9; second = []; run = begun plain_run 9 }

first_left : State
first_left = (resume 100 first (start first lent).state).state

-- ---- the second

second : Desk
second = record { p = 1; q = 4; coefs = negsuc 0 ∷ pos 3 ∷ negsuc 1 ∷ negsuc 0 ∷ []; generators = take (first_left.run.found * 4) first_left.list }

desk_lent : State
desk_lent = state_of (replicate 40 9) (replicate 11 9) (record_of plain_run 9 9 9 9)

group : FirstGroup second
unfolding first second
group = record { p = 1; coefs = first.coefs; numbers = refl }

second_begun : State
second_begun = (desk_begin second desk_lent).state

second_left : State
second_left = (desk_resume 100 second second_begun).state

first_list : WholeList second group
unfolding first lent first_left second group sum_to inner value total unit all_to any_to count_to refuse_with ◌then◌ refuse_first solves is_at_or_below covered
    bit frozen write_to write_row units_to units_start makes marks_to write_children listed grown step row_fits in_order check7 start_checks resume_checks
    too_large search_checks checked start unless_done walk call
first_list = first_then_second second group (start first lent).state (started_units lent refl) 100 refl refl

-- the map of document 01's "The program", of which the desks have one equation each
both : Input
both = input_of 2 4 (negsuc 0 ∷ pos 1 ∷ pos 2 ∷ negsuc 2 ∷ negsuc 0 ∷ pos 3 ∷ negsuc 1 ∷ negsuc 0 ∷ [])

second_whole : Exactly 4 (MinimalSolution (system_of both)) second_left.list second_left.run.found
unfolding both first lent first_left second desk_lent group second_begun second_left pack_to desk_row desk_start raises desk_grown freed desk_listed desk_step
    keeps spoils swept settled desk_too_large desk_search_checks generators_in_order desk_row_in_order desk_in_order wide desk_start_checks desk_resume_checks
    desk_begin sum_to inner value total unit all_to any_to count_to refuse_with ◌then◌ refuse_first solves is_at_or_below covered bit frozen write_to write_row
    units_to units_start makes marks_to write_children listed grown step row_fits in_order check7 start_checks resume_checks too_large search_checks checked
    start unless_done walk call
second_whole = (second_demand_desks second group second_begun (desk_begun desk_lent refl)).finished first_list 100 refl

second_rows : take (second_left.run.found * 4) second_left.list ≡ 4 ∷ 2 ∷ 1 ∷ 0 ∷ 0 ∷ 1 ∷ 1 ∷ 1 ∷ []
unfolding first lent first_left second desk_lent second_begun second_left pack_to desk_row desk_start raises desk_grown freed desk_listed desk_step keeps spoils
    swept settled desk_too_large desk_search_checks generators_in_order desk_row_in_order desk_in_order wide desk_start_checks desk_resume_checks desk_begin
    sum_to inner value total unit all_to any_to count_to refuse_with ◌then◌ refuse_first solves is_at_or_below covered bit frozen write_to write_row units_to
    units_start makes marks_to write_children listed grown step row_fits in_order check7 start_checks resume_checks too_large search_checks checked start
    unless_done walk call
second_rows = refl

-- ---- the third

third : Desk
third = record { p = 1; q = 4; coefs = pos 1 ∷ pos 0 ∷ pos 0 ∷ negsuc 3 ∷ []; generators = take (second_left.run.found * 4) second_left.list }

third_begun : State
third_begun = (desk_begin third desk_lent).state

third_left : State
third_left = (desk_resume 100 third third_begun).state

groups : FirstGroup third
unfolding first second third group
groups = both_groups second group refl third refl

three : Input
three = input_of 3 4 (negsuc 0 ∷ pos 1 ∷ pos 2 ∷ negsuc 2 ∷ negsuc 0 ∷ pos 3 ∷ negsuc 1 ∷ negsuc 0 ∷ pos 1 ∷ pos 0 ∷ pos 0 ∷ negsuc 3 ∷ [])

third_whole : Exactly 4 (MinimalSolution (system_of three)) third_left.list third_left.run.found
unfolding three first lent first_left second desk_lent group groups second_begun second_left third third_begun third_left pack_to desk_row desk_start raises
    desk_grown freed desk_listed desk_step keeps spoils swept settled desk_too_large desk_search_checks generators_in_order desk_row_in_order desk_in_order wide
    desk_start_checks desk_resume_checks desk_begin sum_to inner value total unit all_to any_to count_to refuse_with ◌then◌ refuse_first solves is_at_or_below
    covered bit frozen write_to write_row units_to units_start makes marks_to write_children listed grown step row_fits in_order check7 start_checks
    resume_checks too_large search_checks checked start unless_done walk call
third_whole =
    (second_demand_desks third groups third_begun (desk_begun desk_lent refl)).finished
    (second_then_third second group second_begun (desk_begun desk_lent refl) first_list 100 refl refl third refl refl)
    100 refl

third_rows : take (third_left.run.found * 4) third_left.list ≡ 4 ∷ 3 ∷ 2 ∷ 1 ∷ []
unfolding first lent first_left second desk_lent second_begun second_left third third_begun third_left pack_to desk_row desk_start raises desk_grown freed
    desk_listed desk_step keeps spoils swept settled desk_too_large desk_search_checks generators_in_order desk_row_in_order desk_in_order wide
    desk_start_checks desk_resume_checks desk_begin sum_to inner value total unit all_to any_to count_to refuse_with ◌then◌ refuse_first solves is_at_or_below
    covered bit frozen write_to write_row units_to units_start makes marks_to write_children listed grown step row_fits in_order check7 start_checks
    resume_checks too_large search_checks checked start unless_done walk call
third_rows = refl
