-- `subtract` meets its contract. Assumes nothing.
use Rattle.definitions.specs.Input.{bound_of}
use Rattle.table_rows.specs.Rows.{tuple}
use Rattle.candidates.specs.Open.{Differs}
use Rattle.candidates.proofs.subtract.Given as goal

abbrev pub invariant-loop-j : goal.invariant-loop-j
invariant-loop-j l = Differs l.j (tuple l.t) (bound_of l.lower) l.over
