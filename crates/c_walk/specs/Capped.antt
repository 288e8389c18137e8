-- Maps with right sides (document 02, job 1) for callers in other languages: the two calls on a record of words. Assumes nothing.
use Rattle.std.specs.Prelude.{ℕ, List, ℤ}
use Rattle.definitions.specs.Calls.{resume, start}
use Rattle.definitions.specs.Input.{Input, input_with, rights}
use Rattle.definitions.specs.System.{most_component}
use Rattle.c_record.specs.Words.{ToldBoth, on_both, start_on_both}

-- a map with right sides, with document 01's limit of components
abbrev pub input_sided : ℕ → ℕ → List ℤ → List ℤ → Input
input_sided p q coefs sides = input_with (rights sides) most_component p q coefs

-- the calls: each is handed a map with right sides, the stack, the lists at 0 and at 1, and the words of the record
unfoldable pub resume_sided : (budget p q : ℕ) (coefs sides : List ℤ) (stack list second words : List ℕ) → ToldBoth
resume_sided budget p q coefs sides stack list second words = on_both (resume budget (input_sided p q coefs sides)) stack list second words

-- another number of words than a record has is answered as in a plain start: with the first of 1 to 4 that is due, or with 6 (`misfit_refused` in
-- c_record/specs/WordLaws)
unfoldable pub start_sided : (p q : ℕ) (coefs sides : List ℤ) (stack list second words : List ℕ) → ToldBoth
start_sided p q coefs sides stack list second words =
    start_on_both (start (input_sided p q coefs sides)) (resume 0 (input_sided p q coefs sides)) stack list second words
