-- `lines::rising` meets its contract. The numbers of the unknowns passed that the row names stand in the line. Assumes nothing.
use Prim.Native.Nat.{◌*◌, ◌≤◌}
use Rattle.texts.specs.Put.{Put}
use Rattle.single_spec.specs.Listing.{rising_to}
use Rattle.single_order.specs.Rows.{row_of}
use Rattle.single_listing.proofs.lines.rising.Given as goal

abbrev pub invariant-loop-j : goal.invariant-loop-j
invariant-loop-j l = (l.at ≤ 3 * l.j) × Put l.initial.line 0 (rising_to l.j (row_of l.list l.base)) l.line l.at
