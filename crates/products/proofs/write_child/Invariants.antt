-- `write_child` meets its contract. The row is written up to j. Assumes nothing.
use Rattle.products.specs.Products.{Written, entry, raised}
use Rattle.products.proofs.write_child.Given as goal

abbrev pub invariant-loop-j : goal.invariant-loop-j
invariant-loop-j l = Written l.k l.j (raised l.gram (entry l.initial.c l.from) l.i) l.initial.c l.c
