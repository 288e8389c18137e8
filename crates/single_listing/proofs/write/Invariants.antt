-- `write` meets its contract. The lines of the rows passed are written. Assumes nothing.
use Rattle.definitions.specs.Tables.{at as rows_of}
use Rattle.single_order.specs.Rows.{map_of}
use Rattle.texts.specs.Put.{Put}
use Rattle.single_spec.specs.Listing.{lines_to}
use Rattle.single_listing.proofs.write.Given as goal

abbrev pub invariant-loop-i : goal.invariant-loop-i
invariant-loop-i l = Put l.initial.out 0 (lines_to l.i (map_of l.p l.q l.coefs) (rows_of l.list l.q)) l.out l.at
