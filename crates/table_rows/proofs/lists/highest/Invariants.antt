-- `lists::highest` meets its contract. Outer loop: no row passed is at or below t. Inner loop: the components passed are at most t's, and the row
-- lies within the list. Assumes nothing.
use mathlib.Core.Path.{◌≡◌}
use mathlib.Core.Bool.{true}
use Prim.Native.Nat.{◌+◌, ◌≤◌}
use lib.Dec.{leb}
use lib.ListN.{length, get_or}
use Rattle.linear.specs.Tests.{all_to}
use Rattle.std.proofs.Common.{None}
use Rattle.table_rows.specs.Rows.{tuple}
use Rattle.table_rows.proofs.Search.{Left}
use Rattle.table_rows.proofs.lists.highest.Given as goal

abbrev pub invariant-loop-j : goal.invariant-loop-j
invariant-loop-j l = (l.rest + l.w ≤ length l.list) × (all_to l.j (λ k. leb (get_or l.list (l.rest + k) 0) (tuple l.t k)) ≡ true)

abbrev pub invariant-rows : goal.invariant-rows
invariant-rows l = (l.verdict ≡ None) × Left leb l.w l.list (tuple l.t) l.found l.rest

abbrev pub decreases-rows : goal.decreases-rows
decreases-rows l = l.rest
