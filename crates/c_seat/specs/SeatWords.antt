-- The training seat (document 02, job 9) for callers in other languages: its calls on a record of words. Assumes nothing.
use Rattle.std.specs.Prelude.{ℕ, List, ℤ}
use Rattle.c_record.specs.Words.{Told, ToldBoth, on_both, on_words, start_on_both, start_on_words}
use Rattle.seat_spec.specs.Training.{seat_input, seat_resume, seat_resume_from, seat_start, seat_start_from}

unfoldable pub seat_resume_words : (budget p q : ℕ) (coefs : List ℤ) (stack list words : List ℕ) → Told
seat_resume_words budget p q coefs stack list words = on_words (seat_resume budget (seat_input p q coefs)) stack list words

unfoldable pub seat_resume_bounded : (budget p q : ℕ) (coefs : List ℤ) (lower stack list second words : List ℕ) → ToldBoth
seat_resume_bounded budget p q coefs lower stack list second words = on_both (seat_resume_from budget lower (seat_input p q coefs)) stack list second words

-- a start cannot write its record into another number of words: it then answers as a continuing call does, with the first of 1, 2, 23, 3, 4 and 5 that is due,
-- or with 6
unfoldable pub seat_start_words : (p q : ℕ) (coefs : List ℤ) (stack list words : List ℕ) → Told
seat_start_words p q coefs stack list words = start_on_words (seat_start (seat_input p q coefs)) (seat_resume 0 (seat_input p q coefs)) stack list words

unfoldable pub seat_start_bounded : (p q : ℕ) (coefs : List ℤ) (lower stack list second words : List ℕ) → ToldBoth
seat_start_bounded p q coefs lower stack list second words =
    start_on_both (seat_start_from lower (seat_input p q coefs)) (seat_resume_from 0 lower (seat_input p q coefs)) stack list second words
