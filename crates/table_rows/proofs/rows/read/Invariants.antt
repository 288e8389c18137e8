-- `rows::read` meets its contract. The components passed have been copied. Assumes nothing.
use mathlib.Core.Path.{◌≡◌}
use lib.ListN.{length}
use Rattle.table_rows.specs.Rows.{Holds}
use Rattle.table_rows.proofs.rows.read.Given as goal

abbrev pub invariant-loop-j : goal.invariant-loop-j
invariant-loop-j l = (length l.t ≡ length l.initial.t) × Holds l.j l.t l.table l.base
