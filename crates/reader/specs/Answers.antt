-- The answers in document 02's terms: for each case its values, or document 01's number and values of a refusal; and as one number. Assumes nothing.
use Rattle.std.specs.Prelude.{ℕ, Option, Some, None, Result, Ok, Err}
use Rattle.definitions.specs.Highest as paper
use Rattle.calls.specs.Codes.{code, refusal_code}
use Rattle.calls.specs.Paper.{number_of, values_of}
use Rattle.calls.specs.declared.Refusal.{Refusal}

abbrev pub located_of : Result (Option ℕ) Refusal → paper.Located
located_of (Ok (Some n)) = paper.place n
located_of (Ok None) = paper.nowhere
located_of (Err why) = paper.refused (number_of why) (values_of why)

-- 126 with the place, or 127 where there is none
abbrev pub located_number : paper.Located → ℕ
located_number (paper.place n) = code 126 n
located_number paper.nowhere = 127
located_number (paper.refused n values) = refusal_code n values
