-- What is handed over and answered of a pair of rows as the code has it. Assumes nothing.
use Rattle.std.specs.Prelude.{Bool, List, ℕ, Option}
use Rattle.definitions.specs.Tables.{at}
use Rattle.engine_reduce.specs.Sums.{Handed, Looked, Searched, Yes, fits_by, integer_at, sum_of}
use Rattle.engine_reduce.specs.declared.sums.Pair.{Pair}

abbrev pub PairHanded : Pair → Type 0
PairHanded p = Handed p.q p.n p.table.now p.values.now p.upper p.lower

abbrev pub PairLooked : Pair → List ℕ → ℕ → Type 0
PairLooked p words word = Looked p.q p.n p.table.now p.values.now words p.upper p.lower word

abbrev pub PairYes : Pair → Bool → Type 0
PairYes p r = Yes p.q p.n p.table.now p.values.now p.upper p.lower p.sum r

abbrev pub PairSearched : Pair → Option ℕ → Type 0
PairSearched p r = Searched p.q p.n p.table.now p.values.now p.upper p.lower p.sum r

-- row i reduces the sum
abbrev pub pair_fits : Pair → ℕ → Bool
pair_fits p i = fits_by p.q (at p.table.now p.q) (integer_at p.values.now) (sum_of p.q p.table.now p.upper p.lower) p.sum i
