-- `back` meets its contract: from the pointer up to where it began, no degree is below e. Assumes nothing.
use Rattle.engine_search.specs.Falls.{Late}
use Rattle.engine_search.proofs.back.Given as goal

abbrev pub invariant-loop-first : goal.invariant-loop-first
invariant-loop-first l = Late l.degrees l.e l.fn.from l.first

abbrev pub decreases-loop-first : goal.decreases-loop-first
decreases-loop-first l = l.first
