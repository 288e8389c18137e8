-- An answer as one number (include/dezgula.h): what it is in its low 8 bits, and the place that it comes with in the others. Assumes nothing.
use Rattle.std.specs.Prelude.{ℕ, ◌+◌, ◌*◌, min, List}
use Rattle.calls.specs.Paper.{value}

-- a place beside its number: the most that 56 bits hold stands for all above, which no table reaches
abbrev pub capped : ℕ → ℕ
capped n = min n 72057594037927935

abbrev pub code : ℕ → ℕ → ℕ
code number place = number + 256 * capped place

-- the papers' number of a refusal, and the value that it comes with for the place
abbrev pub refusal_code : ℕ → List ℕ → ℕ
refusal_code n values = code n (value values)
