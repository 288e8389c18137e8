-- Document 02, Job 10, "One desk after the other": the second walk, which "has a start and continuing calls of its own, each handed the loops and the second
-- group", with its tables, sweep, step, refusals and calls. (The first is a plain run.) The minimal solutions of the first group that are handed over (the
-- trade's loops) are generators here: the second walk starts from them and raises by them. Assumes nothing.
use Rattle.std.specs.Prelude.{ℕ, ◌+◌, ◌*◌, ◌-◌, ◌^◌, ◌/◌, ◌%◌, max, Bool, true, not, ◌&&◌, ◌||◌, cond, List, ltb, eqb, leb, ℤ, pos, nat_abs, length, get_or}
use Rattle.std.specs.Int.Signed.{lt_z}
use Rattle.linear.specs.Systems.{inner}
use Rattle.linear.specs.Tests.{all_to, any_to, count_to}
use Rattle.linear.specs.Tuples.{total}
use Rattle.definitions.specs.Answers.{Check, ◌then◌, refuse_if, started}
use Rattle.definitions.specs.Input.{Input, input_of, system_of}
use Rattle.definitions.specs.Machine.{Machine, Outcome, call, call_steps, checked}
use Rattle.definitions.specs.Refusals.{check1, check2, check7, step_limit}
use Rattle.definitions.specs.Step.{marks_to}
use Rattle.definitions.specs.System.{System, covered, image_of, most_component, solves}
use Rattle.definitions.specs.Tables.{State, at, capacity, frozen, write_to}
use Rattle.laws.specs.Pack.{pack_to}
use Rattle.laws.specs.Sweep.{keeps, swept_to}
use Rattle.desk_spec.specs.Records.{desk_begun, desk_stepped, is_desk, lent_with, recounted}

-- ---- what is handed over with every call

-- the second group, p equations in q unknowns, and the generators, a table with rows of q numbers
pub record Desk : Type 0 where
  pub p : ℕ
  pub q : ℕ
  pub coefs : List ℤ
  pub generators : List ℕ

abbrev pub desk_of : ℕ → ℕ → List ℤ → List ℕ → Desk
desk_of p q coefs generators = record { p = p; q = q; coefs = coefs; generators = generators }

-- the second group as a map alone, and as a system
abbrev pub group_input : Desk → Input
group_input d = input_of d.p d.q d.coefs

abbrev pub second_group : Desk → System
second_group d = system_of (group_input d)

-- how many they are, and the one at place k (from 0)
abbrev pub generator_count : Desk → ℕ
generator_count d = length d.generators / d.q

abbrev pub generator : Desk → ℕ → ℕ → ℕ
generator d k = at d.generators d.q k

-- ---- the tables

-- "marks (two numbers a row, loops 1 to 32 in the first)": a row has q components and two numbers, which are read as one number of 64 bits, bit j - 1 for
-- generator j
abbrev pub word : ℕ
word = 4294967296

-- "The stack table has rows" of q + 2 numbers here: the tuple and the marks of row k
abbrev pub desk_tuple : ℕ → List ℕ → ℕ → ℕ → ℕ
desk_tuple q stack k = at stack (q + 2) k

abbrev pub desk_marks : ℕ → List ℕ → ℕ → ℕ
desk_marks q stack k = at stack (q + 2) k q + at stack (q + 2) k (q + 1) * word

-- a row to be written: the q components, then the marks
unfoldable pub desk_row : ℕ → (ℕ → ℕ) → ℕ → ℕ → ℕ
desk_row q x marks j = cond (ltb j q) (x j) (cond (eqb j q) (marks % word) (marks / word))

abbrev pub always : ℕ → Bool
always k = true

-- "let the second walk start from those loops": row k holds generator k, and marks 1 to k - 1
unfoldable pub desk_start : Desk → State → State
desk_start d s =
    lent_with s
    (pack_to (generator_count d) (d.q + 2) s.stack 0 always (λ k. desk_row d.q (generator d k) (2 ^ k - 1)))
    s.list
    (desk_begun (generator_count d))

-- ---- the sweep

-- of the rows listed, each that neither "lies above another row" nor "repeats an earlier one"
abbrev pub stays : ℕ → State → ℕ → Bool
stays q s = keeps q s.run.found (at s.list q)

-- "a sweep removes each row that lies above another row or repeats an earlier one, and closes the gaps, order kept"
unfoldable pub swept : ℕ → State → State
swept q s = lent_with s s.stack (swept_to s.run.found q s.list (stays q s)) (recounted s.run (count_to s.run.found (stays q s)))

-- "It runs before each "complete"": at height 0, ahead of the allowance
abbrev pub is_done : State → Bool
is_done s = eqb s.run.height 0

unfoldable pub settled : Desk → State → State
settled d s = cond (is_done s) (swept d.q s) s

-- "and when a solution is due and the list is full": what a step that lists begins with
abbrev pub is_full : Desk → State → Bool
is_full d s = leb (capacity d.q s.list) s.run.found

unfoldable pub freed : Desk → State → State
freed d s = cond (is_full d s) (swept d.q s) s

-- ---- one step

-- "The row at the height is the top.": its level from 0, its tuple, its marks
abbrev pub desk_level : State → ℕ
desk_level s = s.run.height - 1

abbrev pub desk_top : Desk → State → ℕ → ℕ
desk_top d s = desk_tuple d.q s.stack (desk_level s)

abbrev pub desk_top_marks : Desk → State → ℕ
desk_top_marks d s = desk_marks d.q s.stack (desk_level s)

-- "and raise by them"
abbrev pub plus : (ℕ → ℕ) → (ℕ → ℕ) → ℕ → ℕ
plus x u i = x i + u i

-- "The inner product is that of the second group's images."
abbrev pub towards_generator : Desk → (ℕ → ℕ) → ℕ → ℤ
towards_generator d x j = inner d.p (image_of (second_group d) x) (image_of (second_group d) (generator d j))

-- Raising the tuple x by generator j makes a child if j is not marked, the inner product is below zero, and the raised tuple is not at or above any of the rows
-- listed.
unfoldable pub raises : Desk → List ℕ → ℕ → (ℕ → ℕ) → ℕ → ℕ → Bool
raises d list found x marks j =
    not (frozen marks j)
    && (lt_z (towards_generator d x j) (pos 0) && not (covered d.q found (at list d.q) (plus x (generator d j))))

abbrev pub desk_makes : Desk → State → ℕ → Bool
desk_makes d s = raises d s.list s.run.found (desk_top d s) (desk_top_marks d s)

-- "the greatest sum of components among the tuples taken off so far"
abbrev pub desk_deeper : Desk → State → ℕ
desk_deeper d s = max s.run.deepest (total (desk_top d s) d.q)

-- "Children are written from the level of the row taken off, upwards, first child lowest. A child's marks are those of the row taken off and the unknowns of
-- the children before it in this step.": the stack table after generators 0 .. n - 1 have been tried on a tuple x with its marks, where f says which of them
-- make a child
abbrev pub desk_children : ℕ → Desk → List ℕ → ℕ → (ℕ → ℕ) → ℕ → (ℕ → Bool) → List ℕ
desk_children n d stack level x marks f = pack_to n (d.q + 2) stack level f (λ j. desk_row d.q (plus x (generator d j)) (marks + marks_to j f))

unfoldable pub desk_grown : Desk → State → State
desk_grown d s =
    lent_with s
    (desk_children (generator_count d) d s.stack (desk_level s) (desk_top d s) (desk_top_marks d s) (desk_makes d s))
    s.list
    (desk_stepped s.run (desk_level s + count_to (generator_count d) (desk_makes d s)) s.run.found (desk_deeper d s))

-- "the tuple becomes the next row of the list"
unfoldable pub desk_listed : Desk → State → State
desk_listed d s =
    lent_with s
    s.stack
    (write_to d.q s.list (s.run.found * d.q) (desk_top d s))
    (desk_stepped s.run (desk_level s) (s.run.found + 1) (desk_deeper d s))

unfoldable pub desk_step : Desk → State → State
desk_step d s = cond (solves (second_group d) (desk_top d s)) (desk_listed d (freed d s)) (desk_grown d s)

-- ---- the refusals of the search

-- "12 for any component above 1,000,000" of a child
unfoldable pub desk_too_large : Desk → State → Bool
desk_too_large d s = any_to (generator_count d) (λ j. desk_makes d s j && any_to d.q (λ i. ltb most_component (plus (desk_top d s) (generator d j) i)))

-- "11 only if the sweep frees no row"
abbrev pub desk_full : Desk → State → Bool
desk_full d s = leb (capacity d.q s.list) (freed d s).run.found

-- "14 first", then 11 and 12. (13 has no case: `children_few` of Valid.)
unfoldable pub desk_search_checks : Desk → State → Check
desk_search_checks d s =
    refuse_if (eqb s.run.steps step_limit) 14
    then refuse_if (solves (second_group d) (desk_top d s) && desk_full d s) 11
    then refuse_if (not (solves (second_group d) (desk_top d s)) && desk_too_large d s) 12

-- ---- the refusals before the walk

-- "3 covers loops that are not whole rows"
abbrev pub desk_check3 : Desk → Check
desk_check3 d = refuse_if (not (eqb (length d.coefs) (d.p * d.q)) || not (eqb (length d.generators % d.q) 0)) 3

-- "4 asks for as many stack rows as loops"
abbrev pub desk_check4 : Desk → State → Check
desk_check4 d s = refuse_if (ltb (length s.stack) (generator_count d * (d.q + 2))) 4

-- "12 for any component above 1,000,000, in a loop handed over 6, at the start too."
unfoldable pub generators_in_order : Desk → Bool
generators_in_order d = all_to (length d.generators) (λ i. leb (get_or d.generators i 0) most_component)

-- row k (from 0) holds no "component above 1,000,000, a mark beyond" the last generator, "or a mark count other than" its own
unfoldable pub desk_row_in_order : Desk → List ℕ → ℕ → Bool
desk_row_in_order d stack k =
    all_to d.q (λ j. leb (desk_tuple d.q stack k j) most_component)
    && (ltb (desk_marks d.q stack k) (2 ^ generator_count d) && eqb (count_to (generator_count d) (frozen (desk_marks d.q stack k))) k)

-- "(Refusal 6 also covers a value above 16,000,000.)"
abbrev pub deepest_limit : ℕ
deepest_limit = 16000000

-- "6 goes by their number": not another kind of record, "height above" it, "found above the room, steps above 1,000,000,000,000; or in rows 1 to height" a row
-- out of order
unfoldable pub desk_in_order : Desk → State → Bool
desk_in_order d s =
    is_desk s.run
    && (leb s.run.height (generator_count d)
    && (leb s.run.found (capacity d.q s.list)
    && (leb s.run.steps step_limit && (leb s.run.deepest deepest_limit && all_to s.run.height (desk_row_in_order d s.stack)))))

abbrev pub most_generators : ℕ
most_generators = 64

abbrev pub image_limit : ℕ
image_limit = 7000000

-- "25, more than 64 loops or a second-group image of one above 7,000,000 in size"
unfoldable pub wide : Desk → Bool
wide d =
    ltb most_generators (generator_count d) || any_to (generator_count d)
    (λ k. any_to d.p (λ i. ltb image_limit (nat_abs (image_of (second_group d) (generator d k) i))))

-- 7, and then 25, "checked last before the walk in each of these calls"
abbrev pub ranges_checks : Desk → Check
ranges_checks d = check7 (group_input d) then refuse_if (wide d) 25

-- each of these calls checks 1 to 4, then its own 6, then 7 and 25
abbrev pub desk_checks : Desk → State → Check → Check
desk_checks d s own = check1 (group_input d) then check2 (group_input d) then desk_check3 d then desk_check4 d s then own then ranges_checks d

unfoldable pub desk_start_checks : Desk → State → Check
desk_start_checks d s = desk_checks d s (refuse_if (not (generators_in_order d)) 6)

unfoldable pub desk_resume_checks : Desk → State → Check
desk_resume_checks d s = desk_checks d s (refuse_if (not (generators_in_order d && desk_in_order d s)) 6)

-- ---- the calls

unfoldable pub desk_begin : Desk → State → Outcome State
desk_begin d s = checked (desk_start_checks d s) s (λ t. record { answer = started; state = desk_start d t })

-- what the continuing call goes by
abbrev pub desk_machine : Desk → Machine State
desk_machine d =
    record {
      before = desk_resume_checks d;
      settle = settled d;
      height = λ s. s.run.height;
      refusals = desk_search_checks d;
      step = desk_step d;
    }

-- the continuing call, with a step budget (document 01: its allowance), and the number of whole steps that it takes
abbrev pub desk_resume : ℕ → Desk → State → Outcome State
desk_resume budget d s = call budget (desk_machine d) s

abbrev pub desk_resume_steps : ℕ → Desk → State → ℕ
desk_resume_steps budget d s = call_steps budget (desk_machine d) s
