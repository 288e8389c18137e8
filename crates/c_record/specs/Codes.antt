-- Answers as one number, for callers in other languages (include/dezgula.h). Assumes nothing.
use Rattle.std.specs.Prelude.{ℕ, ◌+◌, ◌*◌, List}
use Rattle.definitions.specs.Answers.{Answer, started, complete, paused, refused}
use Rattle.calls.specs.Paper.{value}

-- document 01's number of a refusal in the low 8 bits, and its value above them
abbrev pub refusal_code : ℕ → List ℕ → ℕ
refusal_code n values = n + 256 * value values

-- three answers are no refusals, and have numbers of their own
abbrev pub code : Answer → ℕ
code complete = 0
code started = 100
code paused = 101
code (refused n values) = refusal_code n values
