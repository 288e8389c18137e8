-- `images::product` meets its contract. The sum so far is the inner product over the places passed. Assumes nothing.
use mathlib.Core.Path.{◌≡◌}
use Rattle.desk_rows.specs.Images.{entry}
use Rattle.linear.specs.Systems.{inner}
use Rattle.desk_rows.proofs.images.product.Given as goal

abbrev pub invariant-loop-i : goal.invariant-loop-i
invariant-loop-i l = l.sum ≡ inner l.i (entry l.images l.a) (entry l.images l.b)
