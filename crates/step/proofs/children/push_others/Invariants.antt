-- `push_others` meets its contract. The stack, the height and the marks are what the unknowns passed make of them, but for the first child. Assumes nothing.
use mathlib.Core.Path.{◌≡◌}
use Prim.Native.Nat.{ℕ}
use lib.ListN.{length}
use Rattle.linear.specs.Tuples.{total}
use Rattle.definitions.specs.Tables.{frozen}
use Rattle.table_rows.specs.Rows.{tuple}
use Rattle.products.specs.Scan.{Left}
use Rattle.products.specs.Products.{Combined}
use Rattle.products.specs.Totals.{Totals}
use Rattle.step.specs.Pushed.{Pushed}
use Rattle.step.proofs.children.push_others.Given as goal

abbrev pub invariant-loop-rest : goal.invariant-loop-rest
invariant-loop-rest l =
    (length l.stack ≡ length l.initial.stack) × (n : ℕ) × Left l.q (frozen l.made) n l.rest
    × Pushed l.q l.initial.stack l.level (tuple l.top) l.marks (frozen l.made) l.first n l.stack l.h l.frozen
    × Combined l.q l.gram l.stack l.h l.inner
    × Totals l.q l.stack l.h l.sums
    × (l.sum ≡ total (tuple l.top) l.q)

abbrev pub decreases-loop-rest : goal.decreases-loop-rest
decreases-loop-rest l = l.rest
