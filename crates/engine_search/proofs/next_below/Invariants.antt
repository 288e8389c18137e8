-- `next_below` meets its contract: no row passed has degree e and a value below 0. Assumes nothing.
use Rattle.engine_search.specs.Scans.{Passed}
use Rattle.engine_search.proofs.next_below.Given as goal

abbrev pub invariant-loop-k : goal.invariant-loop-k
invariant-loop-k l = Passed l.values l.degrees l.e l.from l.k
