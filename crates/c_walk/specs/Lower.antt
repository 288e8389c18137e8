-- Runs from a lower bound (document 02, Job 4) for callers in other languages: the two calls on a record of words. Assumes nothing.
use Rattle.std.specs.Prelude.{ℕ, List, ℤ}
use Rattle.definitions.specs.Calls.{resume_from, start_from}
use Rattle.definitions.specs.Input.{input_of}
use Rattle.c_record.specs.Words.{ToldBoth, on_both, start_on_both}

-- the calls: each is handed a map, the lower bound, the stack, the list, the second list, which is that of the plain walk, and the words of the record
unfoldable pub resume_bounded : (budget p q : ℕ) (coefs : List ℤ) (lower stack list second words : List ℕ) → ToldBoth
resume_bounded budget p q coefs lower stack list second words = on_both (resume_from budget lower (input_of p q coefs)) stack list second words

-- another number of words than a record has is answered as by the continuing call: the first of 1 to 5 that is due, or 6 (`misfit_refused` in LowerLaws)
unfoldable pub start_bounded : (p q : ℕ) (coefs : List ℤ) (lower stack list second words : List ℕ) → ToldBoth
start_bounded p q coefs lower stack list second words =
    start_on_both (start_from lower (input_of p q coefs)) (resume_from 0 lower (input_of p q coefs)) stack list second words
