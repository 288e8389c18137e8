-- `rows::sum` meets its contract. The components passed have been added up. Assumes nothing.
use mathlib.Core.Path.{◌≡◌}
use Rattle.linear.specs.Tuples.{total}
use Rattle.table_rows.specs.Rows.{tuple}
use Rattle.desk_rows.proofs.rows.sum.Given as goal

abbrev pub invariant-loop-j : goal.invariant-loop-j
invariant-loop-j l = (l.sum ≡ total (tuple l.t) l.j)
