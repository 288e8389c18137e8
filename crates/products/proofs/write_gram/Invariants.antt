-- `write_gram` meets its contract. The table holds the Gram matrix of the equations passed. Assumes nothing.
use mathlib.Core.Path.{◌≡◌}
use lib.ListN.{length}
use Rattle.products.specs.Products.{Gram}
use Rattle.products.proofs.write_gram.Given as goal

abbrev pub invariant-loop-e : goal.invariant-loop-e
invariant-loop-e l = (length l.g ≡ 256) × Gram l.e l.q l.coefs l.g
