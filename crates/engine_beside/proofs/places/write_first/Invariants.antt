-- `write_first` meets its contract: the entries passed are written. Assumes nothing.
use Rattle.engine_beside.specs.Writing.{Written}
use Rattle.engine_beside.proofs.places.write_first.Given as goal

abbrev pub invariant-loop-i : goal.invariant-loop-i
invariant-loop-i g l = Written (goal.F-post g l.entry) l.i l.initial.entries l.entries
