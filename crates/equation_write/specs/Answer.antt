-- What writing a row answers and leaves, as the papers have it. Assumes nothing.
use Rattle.std.specs.Prelude.{ℕ, List, [], Result, Ok, Err}
use Rattle.calls.specs.Paper.{number_of, values_of}
use Rattle.equation_spec.specs.Writing.{Wrote, wrote, refused}
use Rattle.equation_write.specs.declared.WriteRefusal.{WriteRefusal}
use Rattle.equation_write.specs.declared.WriteRefusal.TheVariants.{Row, RightSide, Space}

-- an answer, with the space as it is left: 2, 3 and 7 by their numbers, and 15 and 29
abbrev pub wrote_by : Result ℕ WriteRefusal → List ℕ → Wrote
wrote_by (Ok n) out = wrote n out
wrote_by (Err (Row why)) out = refused (number_of why) (values_of why) out
wrote_by (Err RightSide) out = refused 15 [] out
wrote_by (Err Space) out = refused 29 [] out
