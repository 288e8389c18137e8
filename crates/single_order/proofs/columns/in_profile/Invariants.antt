-- `in_profile` meets its contract. The ones of the column are counted so far. Assumes nothing.
use Rattle.definitions.specs.System.{column}
use Rattle.single_order.specs.Rows.{map_of}
use Rattle.single_order.specs.Counting.{Counted}
use Rattle.single_order.proofs.columns.in_profile.Given as goal

abbrev pub invariant-loop-i : goal.invariant-loop-i
invariant-loop-i l = Counted (column (map_of l.p l.q l.coefs) l.j) l.i l.ones l.minus_ones
