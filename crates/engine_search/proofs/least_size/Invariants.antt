-- `least_size` meets its contract: the least of the rows passed. Assumes nothing.
use Rattle.engine_spec.specs.Search.{least_to}
use Rattle.engine_search.specs.Places.{IsLeast, degree_of}
use Rattle.engine_search.proofs.least_size.Given as goal

abbrev pub invariant-loop-i : goal.invariant-loop-i
invariant-loop-i l = IsLeast l.d (least_to l.d l.i (degree_of l.sizes)) l.best
