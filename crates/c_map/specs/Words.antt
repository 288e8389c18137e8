-- Reading the text form of a map, for callers in other languages (library/raw.h): the answer as one number, and two words beside it. Assumes nothing.
use Rattle.std.specs.Prelude.{ℕ, List, ℤ, set}
use Rattle.map_spec.specs.Reading.{read_map}
use Rattle.map_text.specs.Answer.{Answer, Outcome, answered, map_read, refused}
use Rattle.c_record.specs.Codes.{refusal_code}

-- 108 where a map was read; else the refusal's number in the low 8 bits, and the line or the place that it comes with above them
abbrev pub number : Answer → ℕ
number (map_read p q) = 108
number (refused n values) = refusal_code n values

abbrev pub two_words : List ℕ → ℕ → ℕ → List ℕ
two_words words a b = set (set words 0 a) 1 b

-- p and q of the map read: "a refusal not given within a walk changes nothing lent"
abbrev pub words_of : Answer → List ℕ → List ℕ
words_of (map_read p q) words = two_words words p q
words_of (refused n values) words = words

abbrev pub told : List ℕ → Outcome → ℕ × (List ℤ × List ℕ)
told words o = (number o.answer, (o.table, words_of o.answer words))

unfoldable pub read_words : List ℕ → List ℤ → List ℕ → ℕ × (List ℤ × List ℕ)
read_words text table words = told words (answered (read_map text) table)
