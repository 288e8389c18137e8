-- `rows::often` meets its contract: the places passed bound it. Assumes nothing.
use mathlib.Core.Path.{◌≡◌}
use Rattle.table_rows.specs.Rows.{tuple}
use Rattle.multiples_spec.specs.Parts.{often_to}
use Rattle.multiples.specs.Taking.{row_at}
use Rattle.multiples.proofs.rows.often.Given as goal

abbrev pub invariant-loop-j : goal.invariant-loop-j
invariant-loop-j l = (l.n ≡ often_to l.j (row_at l.list l.base) (tuple l.rest))
