-- `lines::ordered` meets its contract. The first unknowns of the order stand in the line. Assumes nothing.
use Prim.Native.Nat.{◌+◌, ◌*◌, ◌≤◌}
use lib.ListN.{get_or}
use Rattle.texts.specs.Put.{Put}
use Rattle.single_spec.specs.Listing.{order_to}
use Rattle.single_listing.proofs.lines.ordered.Given as goal

abbrev pub invariant-loop-j : goal.invariant-loop-j
invariant-loop-j l = (l.next ≤ l.at + 3 * l.j-index) × Put l.initial.line l.at (order_to l.j-index (λ i. get_or l.order i 0)) l.line l.next
