-- `add_component` meets its contract. The row is written up to j; a place that is read is as it was. Assumes nothing.
use Prim.Native.Nat.{◌+◌}
use Rattle.definitions.specs.Tables.{at}
use Rattle.products.specs.Products.{Written, partial}
use Rattle.products.proofs.add_component.Given as goal

abbrev pub invariant-loop-j : goal.invariant-loop-j
invariant-loop-j l = Written l.k l.j (partial l.gram (at l.stack (l.q + 1) l.k) (l.i + 1)) l.initial.c l.c
