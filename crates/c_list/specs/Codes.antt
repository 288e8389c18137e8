-- The answers of the calls on files as one number, for callers in other languages (include/dezgula_text.h). Assumes nothing.
use Rattle.std.specs.Prelude.{ℕ, ◌+◌, ◌*◌, List, ℤ, set}
use Rattle.calls.specs.Paper.{value}
use Rattle.list_spec.specs.Writing as writing
use Rattle.list_spec.specs.Reading as reading

-- the document's number of a refusal in the low 8 bits, and its value above them
abbrev pub refusal_code : ℕ → List ℕ → ℕ
refusal_code n values = n + 256 * value values

abbrev pub write_code : writing.WriteAnswer → ℕ
write_code writing.wrote = 106
write_code (writing.refused n values) = refusal_code n values

abbrev pub read_code : reading.ReadAnswer → ℕ
read_code (reading.read p q rows ending) = 107
read_code (reading.refused n values) = refusal_code n values

-- what was read, in the words lent for it
abbrev pub words_after : reading.ReadAnswer → List ℕ → List ℕ
words_after (reading.read p q rows ending) words = set (set (set (set words 0 p) 1 q) 2 rows) 3 ending
words_after (reading.refused n values) words = words

-- what a call answers, as a number, and what it leaves in all that it was lent
abbrev pub write_told : writing.WriteOutcome → ℕ × List ℕ
write_told o = (write_code o.answer, o.out)

abbrev pub read_told : reading.ReadOutcome → List ℕ → ℕ × (List ℤ × (List ℕ × List ℕ))
read_told o words = (read_code o.answer, (o.coefs, (o.list, words_after o.answer words)))
