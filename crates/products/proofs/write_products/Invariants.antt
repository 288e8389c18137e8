-- `write_products` meets its contract. Every level passed holds what its row makes of the Gram matrix, and the row's sum is beside it. Assumes nothing.
use mathlib.Core.Path.{◌≡◌}
use Prim.Native.Nat.{◌+◌}
use lib.ListN.{length}
use Rattle.definitions.specs.Tables.{at}
use Rattle.products.specs.Products.{Rows, Zeros, combine}
use Rattle.products.specs.Totals.{Totals}
use Rattle.products.proofs.write_products.Given as goal

abbrev pub invariant-loop-k : goal.invariant-loop-k
invariant-loop-k w =
    (length w.c ≡ 256) × Rows w.k w.q (λ l. combine w.q w.gram (at w.stack (w.q + 1) l)) w.c × Zeros w.c w.k × Totals w.q w.stack w.k w.sums
