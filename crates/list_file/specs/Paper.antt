-- The refusals of the calls on files as the documents have them: for each case its number and values. Assumes nothing.
use Rattle.std.specs.Prelude.{ℕ, List, [], Result, Ok, Err}
use Rattle.definitions.specs.Answers as paper
use Rattle.calls.specs.Paper as calls
use Rattle.list_file.specs.declared.words.FileRefusal.{FileRefusal}
use Rattle.list_file.specs.declared.words.FileRefusal.TheVariants.{System, Length, Sum, Number, Range, TableLength}

-- the number of a refusal
abbrev pub number_of : FileRefusal → ℕ
number_of (System why) = calls.number_of why
number_of Length = 19
number_of Sum = 20
number_of Number = 21
number_of Range = 22
number_of TableLength = 29

-- the values that it comes with: 7 has the place
abbrev pub values_of : FileRefusal → List ℕ
values_of (System why) = calls.values_of why
values_of Length = []
values_of Sum = []
values_of Number = []
values_of Range = []
values_of TableLength = []

abbrev pub check_of : Result (Unit {0}) FileRefusal → paper.Check
check_of (Err why) = paper.refuse (number_of why) (values_of why)
check_of (Ok done) = paper.go
