-- The writer's types as the document has them. Assumes nothing.
use Rattle.std.specs.Prelude.{ℕ, List, ℤ, Result, Ok, Err}
use Rattle.list_spec.specs.Form.{ListFile}
use Rattle.list_spec.specs.Writing as paper
use Rattle.list_file.specs.Paper.{number_of, values_of}
use Rattle.list_file.specs.declared.words.FileRefusal.{FileRefusal}

abbrev pub list_of : ℕ → ℕ → List ℤ → List ℕ → ℕ → ListFile
list_of p q coefs rows ending = record { p = p; q = q; coefs = coefs; rows = rows; ending = ending }

abbrev pub write_answer : Result (Unit {0}) FileRefusal → paper.WriteAnswer
write_answer (Ok done) = paper.wrote
write_answer (Err why) = paper.refused (number_of why) (values_of why)

-- an answer, with the buffer as it is left
abbrev pub write_outcome : Result (Unit {0}) FileRefusal → List ℕ → paper.WriteOutcome
write_outcome r out = record { answer = write_answer r; out = out }
