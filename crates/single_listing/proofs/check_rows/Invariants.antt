-- `check_rows` meets its contract. The rows passed are minimal solutions, and so much of the space is left. Assumes nothing.
use Rattle.single_order.specs.Rows.{map_of}
use Rattle.single_listing.specs.Passes.{Checked}
use Rattle.single_listing.proofs.check_rows.Given as goal

abbrev pub invariant-loop-i : goal.invariant-loop-i
invariant-loop-i l = Checked (map_of l.p l.q l.coefs) l.list l.room l.left l.i
