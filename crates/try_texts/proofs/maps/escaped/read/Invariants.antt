-- `escaped::read` ends: each turn takes a byte of what is left of the line. Assumes nothing.
use Rattle.std.proofs.Common.{length}
use Rattle.try_texts.proofs.maps.escaped.read.Given as goal

abbrev pub decreases-loop-rest : goal.decreases-loop-rest
decreases-loop-rest l = length l.rest
