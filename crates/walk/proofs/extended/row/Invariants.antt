-- `walk::extended::row` meets its contract. Assumes nothing.
use Rattle.walk.specs.ExtendLaws.{RowWritten}
use Rattle.walk.proofs.extended.row.Given as goal

abbrev pub invariant-loop-j : goal.invariant-loop-j
invariant-loop-j l = RowWritten l.i l.q l.coefs l.rights l.j l.initial.wide l.wide
