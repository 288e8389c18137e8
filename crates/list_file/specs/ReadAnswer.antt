-- The reader's types as the document has them. Assumes nothing.
use Rattle.std.specs.Prelude.{ℕ, List, ℤ, Result, Ok, Err}
use Rattle.list_spec.specs.Reading as paper
use Rattle.list_file.specs.Paper.{number_of, values_of}
use Rattle.list_file.specs.declared.read.Read.{Read}
use Rattle.list_file.specs.declared.words.FileRefusal.{FileRefusal}

abbrev pub read_answer : Result Read FileRefusal → paper.ReadAnswer
read_answer (Ok r) = paper.read r.p r.q r.found.0 r.ending
read_answer (Err why) = paper.refused (number_of why) (values_of why)

-- an answer, with the tables as they are left
abbrev pub read_outcome : Result Read FileRefusal → List ℤ → List ℕ → paper.ReadOutcome
read_outcome r coefs list = record { answer = read_answer r; coefs = coefs; list = list }
