-- Single-file maps (document 02, job 12) for callers in other languages: the two calls on a record of words, and the listing's answer as one number.
-- Assumes nothing.
use Rattle.std.specs.Prelude.{ℕ, List, ℤ}
use Rattle.definitions.specs.Calls.{resume}
use Rattle.definitions.specs.Input.{input_of}
use Rattle.calls.specs.Codes.{code, refusal_code}
use Rattle.single_spec.specs.Calls.{single_resume, single_start}
use Rattle.single_spec.specs.Listing.{Listed, Listing, refused, written}
use Rattle.c_record.specs.Words.{Told, on_words, start_on_words}

unfoldable pub single_resume_words : (budget p q : ℕ) (coefs : List ℤ) (stack list words : List ℕ) → Told
single_resume_words budget p q coefs stack list words = on_words (single_resume budget (input_of p q coefs)) stack list words

-- another number of words than a record has is answered as in a plain start
unfoldable pub single_start_words : (p q : ℕ) (coefs : List ℤ) (stack list words : List ℕ) → Told
single_start_words p q coefs stack list words = start_on_words (single_start (input_of p q coefs)) (resume 0 (input_of p q coefs)) stack list words

-- 104 with the number of bytes written, or a refusal with its value
abbrev pub listing_code : Listed → ℕ
listing_code (written n) = code 104 n
listing_code (refused n values) = refusal_code n values

abbrev pub listing_told : Listing → ℕ × List ℕ
listing_told l = (listing_code l.answer, l.out)
