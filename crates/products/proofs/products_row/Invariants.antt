-- `products_row` meets its contract. The row holds what the components passed make of it, and their sum is kept. Assumes nothing.
use mathlib.Core.Path.{◌≡◌}
use Prim.Native.Nat.{◌+◌}
use Rattle.linear.specs.Tuples.{total}
use Rattle.definitions.specs.Tables.{at}
use Rattle.products.specs.Products.{Written, partial}
use Rattle.products.proofs.products_row.Given as goal

abbrev pub invariant-loop-i : goal.invariant-loop-i
invariant-loop-i l = Written l.k l.q (partial l.gram (at l.stack (l.q + 1) l.k) l.i) l.initial.c l.c
    × (l.sum ≡ total (at l.stack (l.q + 1) l.k) l.i)
