-- `ones` meets its contract. The components passed are 0 or 1, and so many are 1. Assumes nothing.
use Rattle.single_order.specs.Rows.{Ones, row_of}
use Rattle.single_order.proofs.ones.Given as goal

abbrev pub invariant-loop-j : goal.invariant-loop-j
invariant-loop-j l = Ones (row_of l.list l.base) l.j l.n
