-- `order_of` meets its contract. So many unknowns of the order are written. Assumes nothing.
use Rattle.single_order.specs.Rows.{map_of}
use Rattle.single_order.specs.Rows.{row_of}
use Rattle.single_order.specs.Following.{Following}
use Rattle.single_order.proofs.order_of.Given as goal

abbrev pub invariant-loop-k : goal.invariant-loop-k
invariant-loop-k l = Following (map_of l.p l.q l.coefs) (row_of l.list l.base) l.order l.size l.first l.at l.k
