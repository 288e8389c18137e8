-- The calls of the second of two desks as callers in other languages have them (library/raw.h): the run record as words, those of every kind of run
-- (`Words` of c_record), and the answer as one number (`Codes` there). Assumes nothing.
use Rattle.std.specs.Prelude.{ℕ, List, ℤ}
use Rattle.c_record.specs.Words.{Told, on_words, start_on_words}
use Rattle.desk_spec.specs.Desks.{desk_begin, desk_of, desk_resume}

-- each is handed the second group with the generators, the two tables, and the words of the record
unfoldable pub desk_resume_words : (budget p q : ℕ) (coefs : List ℤ) (generators stack list words : List ℕ) → Told
desk_resume_words budget p q coefs generators stack list words = on_words (desk_resume budget (desk_of p q coefs generators)) stack list words

-- A start looks at no old content, but it cannot write its record into another number of words: it then answers as a continuing call does, with the first of 1
-- to 4 that is due, or with 6 (`misfit_refused` in WordLaws).
unfoldable pub desk_start_words : (p q : ℕ) (coefs : List ℤ) (generators stack list words : List ℕ) → Told
desk_start_words p q coefs generators stack list words =
    start_on_words (desk_begin (desk_of p q coefs generators)) (desk_resume 0 (desk_of p q coefs generators)) stack list words
