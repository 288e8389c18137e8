-- The answers of the calls on typed equations as one number, for callers in other languages (include/dezgula_text.h). Assumes nothing.
use Rattle.std.specs.Prelude.{ℕ, ◌+◌, ◌*◌, List, [], ◌∷◌, ℤ, set}
use Rattle.calls.specs.Paper.{value}
use Rattle.equation_spec.specs.Writing as writing
use Rattle.equation_spec.specs.Systems as systems
use Rattle.equation_read.specs.Answer as reading

-- the papers' number of a refusal in the low 8 bits, and its value above them
abbrev pub refusal_code : ℕ → List ℕ → ℕ
refusal_code n values = n + 256 * value values

-- what a call answers, as a number, and what it leaves in what it was lent: 130, and the right side in the number lent for it
abbrev pub read_told : reading.Answer → List ℤ → ℕ × (List ℤ × List ℤ)
read_told (reading.read right row) side = (130, (row, set side 0 right))
read_told (reading.refused n values row) side = (refusal_code n values, (row, side))

-- 131 with how many bytes were written
abbrev pub write_told : writing.Wrote → ℕ × List ℕ
write_told (writing.wrote n out) = (131 + 256 * n, out)
write_told (writing.refused n values out) = (refusal_code n values, out)

-- ---- a system of several lines

-- the second of the values, and 0 where there is none
abbrev pub second : List ℕ → ℕ
second [] = 0
second (x ∷ others) = value others

-- 132 with the number of equations; or a refusal with its line, and the value of the line's own refusal in the number lent for it
abbrev pub system_told : systems.Answer → List ℕ → ℕ × (List ℤ × (List ℤ × List ℕ))
system_told (systems.read p coefs rights) within = (132 + 256 * p, (coefs, (rights, within)))
system_told (systems.refused n values coefs rights) within = (refusal_code n values, (coefs, (rights, set within 0 (second values))))
