-- Document 01's examples of what the program prints, by computation. Assumes nothing.
use Prim.Native.String.{String}
use Rattle.std.specs.Prelude.{List, [], ◌∷◌, ◌++◌, map, ◌≡◌, refl, ℕ, length}
use Rattle.linear.specs.Sums.{sum_to}
use Rattle.linear.specs.Tests.{all_to, any_to, count_to}
use Rattle.linear.specs.Tuples.{total, unit}
use Rattle.linear.specs.Systems.{inner, value}
use Rattle.definitions.specs.Answers.{Answer, paused, refuse_first, refuse_with, refused, ◌then◌}
use Rattle.definitions.specs.System.{solves, is_at_or_below, covered}
use Rattle.definitions.specs.Input.{Input}
use Rattle.definitions.specs.Tables.{State, plain_run, bit, frozen, write_to, write_row, units_to, units_start}
use Rattle.definitions.specs.Step.{grown, listed, makes, marks_to, step, write_children}
use Rattle.definitions.specs.Refusals.{row_fits, in_order, check7, start_checks, resume_checks, too_large, search_checks}
use Rattle.definitions.specs.Calls.{resume, start}
use Rattle.definitions.specs.Machine as machine
use Rattle.definitions.specs.Machine.{Outcome, call, unless_done, walk}
use Rattle.texts.specs.Decimals.{last_digits, decimal, bytes}
use Rattle.texts.specs.Reading.{and_then, more_digits, read_natural, read_number}
use Rattle.map_spec.specs.Form.{line, lines}
use Rattle.map_spec.specs.Reading.{read_field, read_line, read_rows, checked, accept_rows, read_body, read_map}
use Rattle.report_spec.specs.Printed.{blank, counted, refusal_text, counts, ending, run_text, run, reading_text, printed}

-- a text, and what is printed for it
abbrev Case : Type 0
Case = String × String

as_printed : List Case → List (List ℕ)
unfolding total sum_to all_to any_to count_to unit inner value refuse_with ◌then◌ refuse_first solves is_at_or_below covered bit frozen write_to write_row
    units_to
    units_start makes marks_to write_children listed grown step row_fits in_order check7 start_checks resume_checks too_large search_checks machine.checked
    start
    unless_done walk call last_digits decimal line lines and_then more_digits read_natural read_number read_field read_line read_rows checked accept_rows
    read_body read_map
    counted refusal_text counts ending run_text run reading_text printed
as_printed cases = map (λ (c : Case). printed (bytes c.0)) cases

as_said : List Case → List (List ℕ)
as_said cases = map (λ (c : Case). bytes c.1) cases

examples : List Case
examples =
    ("2 4\n-1 1 2 -3\n-1 3 -2 -1\n", "equations 2\nunknowns 4\nsteps 16\nsolutions 2\n0 1 1 1\n4 2 1 0\nend complete\n")
    ∷ ("1 1\n5\n", "equations 1\nunknowns 1\nsteps 1\nsolutions 0\nend complete\n")
    ∷ ("1 1\n0\n", "equations 1\nunknowns 1\nsteps 1\nsolutions 1\n1\nend complete\n")
    ∷ ("1 3\n0 0 0\n", "equations 1\nunknowns 3\nsteps 3\nsolutions 3\n0 0 1\n0 1 0\n1 0 0\nend complete\n")
    ∷ ("9 4\n", "refused 1\n")
    ∷ ("2 4\n-1 1 2 -3\n", "refused 9 line 3\n")
    ∷ ("2 4\n-1 1 2 -3\n10001 3 -2 -1\n", "refused 7 place 5\n")
    ∷ []

examples_printed : as_printed examples ≡ as_said examples
unfolding as_printed as_said examples
examples_printed = refl

-- a run cut short: its rows stand before "The ending may also be "end paused" or "end refused 11" (12, 13 or 14)."
cut_short : Answer → Outcome State
cut_short a =
    record {
      answer = a;
      state =
          record {
            stack = [];
            list = 3 ∷ 2 ∷ 0 ∷ 7 ∷ 9 ∷ 9 ∷ [];
            second = [];
            run = record { kind = plain_run; height = 1; found = 2; steps = 5; found2 = 0; steps2 = 0; deepest = 5 };
          };
    }

cut_short_printed : map (λ a. run_text 1 2 (cut_short a)) (paused ∷ refused 11 [] ∷ refused 12 [] ∷ refused 14 [] ∷ [])
    ≡ map (λ ending. bytes "equations 1\nunknowns 2\nsteps 5\nsolutions 2\n3 2\n0 7\n" ++ bytes ending)
    ("end paused\n" ∷ "end refused 11\n" ∷ "end refused 12\n" ∷ "end refused 14\n" ∷ [])
unfolding cut_short last_digits decimal line lines counted counts ending run_text
cut_short_printed = refl

-- "It allows 1,000,000 steps and has room for 8,192 numbers in the list."
lent_holds : (length blank.list ≡ 8192) × ((m : Input) → run m ≡ resume 1000000 m (start m blank).state)
unfolding run
lent_holds = (refl, λ m. refl)
