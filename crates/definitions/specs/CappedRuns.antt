-- Runs with right sides, by computation (document 02, Job 1): right sides of 0, whose list at 1 is the zero row and whose list at 0 is the plain map's; one
-- that no tuple meets; one that a unit tuple meets; one cut short, and with too little room in either list. Each is begun on tables and a record with old
-- content. The greatest sum counts the extra unknown. (A longer run: laws/proofs/CappedExample.antt.) Assumes nothing.
use Rattle.std.specs.Prelude.{ℕ, ◌*◌, ◌≡◌, refl, false, true, List, ◌∷◌, map, [], ℤ, pos, negsuc, get_or, length, replicate, take}
use Rattle.linear.specs.Sums.{sum_to}
use Rattle.linear.specs.Tests.{all_to, any_to, count_to}
use Rattle.linear.specs.Tuples.{total, unit}
use Rattle.linear.specs.Systems.{inner, value}
use Rattle.definitions.specs.Answers.{Answer, Check, complete, go, paused, refuse, refused, refuse_with, ◌then◌, refuse_first}
use Rattle.definitions.specs.System.{capped, covered, extend_to, is_at_or_below, most_component, solves}
use Rattle.definitions.specs.Input.{Input, input_with, limit_of, rights}
use Rattle.definitions.specs.Tables.{State, begun, bit, capped_run, desk_by_desk, frozen, write_to, write_row, units_to, units_start}
use Rattle.definitions.specs.Step.{grown, listed, makes, marks_to, step, stopped_by, write_children}
use Rattle.definitions.specs.Refusals.{row_fits, in_order, check7, start_checks, resume_checks, too_large, search_checks}
use Rattle.definitions.specs.Machine.{Outcome, call, checked, unless_done, walk}
use Rattle.definitions.specs.Calls.{resume, start}

-- the answer, the rows of the list at 0 and of the list at 1, height, steps and the greatest sum
pub record Summary : Type 0 where
  pub answer : Answer
  pub zero : List ℕ
  pub one : List ℕ
  pub height : ℕ
  pub steps : ℕ
  pub deepest : ℕ

unfoldable pub lent : ℕ → ℕ → State
lent room room₂ =
    record {
      stack = replicate 31 9;
      list = replicate room 9;
      second = replicate room₂ 9;
      run = record { kind = desk_by_desk; height = 9; found = 9; steps = 9; found2 = 9; steps2 = 9; deepest = 9 };
    }

unfoldable pub summed : ℕ → Outcome State → Summary
summed q o =
    record {
      answer = o.answer;
      zero = take (o.state.run.found * q) o.state.list;
      one = take (o.state.run.found2 * q) o.state.second;
      height = o.state.run.height;
      steps = o.state.run.steps;
      deepest = o.state.run.deepest;
    }

unfoldable pub ran : ℕ → ℕ → ℕ → Input → Summary
unfolding lent summed sum_to inner value unit total all_to any_to count_to refuse_with ◌then◌ refuse_first solves is_at_or_below covered extend_to bit frozen
    write_to write_row units_to units_start makes marks_to write_children listed grown step row_fits in_order check7 start_checks resume_checks too_large
    search_checks checked start unless_done walk call
ran budget room room₂ i = summed i.q (resume budget i (start i (lent room room₂)).state)

with_side : List ℤ → ℤ → Input
with_side coefs b = input_with (rights (b ∷ [])) most_component 1 (length coefs) coefs

unfoldable pub comes : Answer → List ℕ → List ℕ → ℕ → ℕ → ℕ → Summary
comes answer zero one height steps deepest = record { answer = answer; zero = zero; one = one; height = height; steps = steps; deepest = deepest }

two_three : List ℤ
two_three = pos 2 ∷ negsuc 2 ∷ []

runs : List Summary
runs =
    ran 100 9 9 (with_side two_three (pos 0))
    ∷ ran 100 9 9 (with_side (pos 2 ∷ negsuc 3 ∷ []) (pos 1))
    ∷ ran 100 9 9 (with_side (pos 1 ∷ negsuc 0 ∷ []) (pos 1))
    ∷ ran 100 9 9 (with_side two_three (pos 4))
    ∷ ran 4 9 9 (with_side two_three (pos 4))
    ∷ ran 100 9 1 (with_side two_three (pos 4))
    ∷ ran 100 1 9 (with_side two_three (pos 4))
    ∷ []

expected : List Summary
expected =
    comes complete (3 ∷ 2 ∷ []) (0 ∷ 0 ∷ []) 0 7 5
    ∷ comes complete (2 ∷ 1 ∷ []) [] 0 7 3
    ∷ comes complete (1 ∷ 1 ∷ []) (1 ∷ 0 ∷ []) 0 5 2
    ∷ comes complete (3 ∷ 2 ∷ []) (2 ∷ 0 ∷ []) 0 9 5
    ∷ comes paused [] [] 2 4 3
    ∷ comes (refused 11 []) (3 ∷ 2 ∷ []) [] 1 8 5
    ∷ comes (refused 11 []) [] [] 2 5 4
    ∷ []

runs_hold : runs ≡ expected
unfolding runs expected with_side two_three comes ran
runs_hold = refl

-- ---- which rows stop a tuple: "a comparison puts it back"

-- the list at 0 holds 2 1, the list at 1 holds 1 0
halfway : State
halfway =
    record {
      stack = [];
      list = 2 ∷ 1 ∷ [];
      second = 1 ∷ 0 ∷ [];
      run = record { kind = capped_run; height = 1; found = 1; steps = 9; found2 = 1; steps2 = 0; deepest = 3 };
    }

-- a row of the list at 0 stops tuples with 0 and with 1 there, one of the list at 1 only those with 1
stops_hold : map (λ x. stopped_by capped 3 halfway (λ j. get_or x j 0))
    ((0 ∷ 1 ∷ 5 ∷ []) ∷ (1 ∷ 1 ∷ 5 ∷ []) ∷ (0 ∷ 2 ∷ 1 ∷ []) ∷ (1 ∷ 2 ∷ 1 ∷ []) ∷ (1 ∷ 0 ∷ 5 ∷ []) ∷ [])
    ≡ false ∷ true ∷ true ∷ true ∷ false ∷ []
unfolding halfway any_to all_to is_at_or_below covered
stops_hold = refl

-- ---- refusals

started_with : ℕ → ℕ → List ℤ → List ℤ → ℕ → Check
started_with p q coefs sides stack =
    start_checks (input_with (rights sides) most_component p q coefs) (record { stack = replicate stack 9; list = []; second = []; run = begun capped_run 0 })

-- 15 unknowns and no more; coefficients and right sides of the right number; a stack row for the extra unknown too; 7 before 15, and 15 without a place
refusals_hold : (started_with 1 15 (replicate 15 (pos 1)) (pos 0 ∷ []) 272 ≡ go)
    × (started_with 1 16 (replicate 16 (pos 1)) (pos 0 ∷ []) 306 ≡ refuse 2 [])
    × (started_with 1 2 (pos 1 ∷ []) (pos 0 ∷ []) 12 ≡ refuse 3 [])
    × (started_with 1 2 (pos 1 ∷ pos 1 ∷ []) [] 12 ≡ refuse 3 [])
    × (started_with 1 2 (pos 1 ∷ pos 1 ∷ []) (pos 0 ∷ []) 11 ≡ refuse 4 [])
    × (started_with 1 2 (pos 1 ∷ pos 10001 ∷ []) (pos 10001 ∷ []) 12 ≡ refuse 7 (2 ∷ []))
    × (started_with 1 2 (pos 1 ∷ pos 1 ∷ []) (negsuc 10000 ∷ []) 12 ≡ refuse 15 [])
    × (started_with 1 2 (pos 1 ∷ pos 1 ∷ []) (negsuc 9999 ∷ []) 12 ≡ go)
unfolding started_with any_to refuse_with ◌then◌ refuse_first check7 start_checks
refusals_hold = (refl, refl, refl, refl, refl, refl, refl, refl)

-- "(above 1,000,000 counts as that, 0 as 1)"
limits_hold : map limit_of (0 ∷ 1 ∷ 20 ∷ 999999 ∷ 1000000 ∷ 1000001 ∷ []) ≡ 1 ∷ 1 ∷ 20 ∷ 999999 ∷ 1000000 ∷ 1000000 ∷ []
limits_hold = refl
