-- `c_dispatch::write::runs` meets its contract. Assumes nothing.
use Rattle.c_dispatch.specs.WordLaws.{Writing}
use Rattle.c_dispatch.proofs.write.runs.Given as goal

abbrev pub invariant-loop-i : goal.invariant-loop-i
invariant-loop-i l = Writing l.outcomes l.initial.words l.words l.i
