-- `walk::extended::write` meets its contract. Assumes nothing.
use Rattle.walk.specs.ExtendLaws.{Extends}
use Rattle.walk.proofs.extended.write.Given as goal

abbrev pub invariant-loop-i : goal.invariant-loop-i
invariant-loop-i l = Extends l.i l.q l.coefs l.rights l.wide
