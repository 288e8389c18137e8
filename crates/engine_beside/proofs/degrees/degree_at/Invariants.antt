-- `degrees::degree_at` meets its contract. The sum so far is that of the places passed, within the limit. Assumes nothing.
use mathlib.Core.Path.{◌≡◌}
use Rattle.linear.specs.Tuples.{total}
use Rattle.engine_spec.specs.Beside.{row_at}
use Rattle.engine_beside.proofs.degrees.degree_at.Given as goal

abbrev pub invariant-loop-j : goal.invariant-loop-j
invariant-loop-j l = l.sum ≡ total (row_at l.table l.base) l.j
