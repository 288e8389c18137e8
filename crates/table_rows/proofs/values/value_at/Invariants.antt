-- `values::value_at` meets its contract. The sum is that of the products passed. Assumes nothing.
use Rattle.table_rows.specs.Small.{equation_at, row_at}
use Rattle.linear.specs.Systems.{inner}
use lib.IntN.{pos}
use mathlib.Core.Path.{◌≡◌}
use Rattle.table_rows.proofs.values.value_at.Given as goal

abbrev pub invariant-loop-j : goal.invariant-loop-j
invariant-loop-j l = (l.sum ≡ inner l.j (equation_at l.coefs l.from) (λ k. pos (row_at l.table l.base k)))
