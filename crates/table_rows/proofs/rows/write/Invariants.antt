-- `rows::write` meets its contract. The components passed have been written. Assumes nothing.
use mathlib.Core.Path.{◌≡◌}
use lib.ListN.{length}
use Rattle.definitions.specs.Tables.{write_to}
use Rattle.table_rows.specs.Rows.{tuple}
use Rattle.table_rows.proofs.rows.write.Given as goal

abbrev pub invariant-loop-j : goal.invariant-loop-j
invariant-loop-j l = (length l.table ≡ length l.initial.table) × (l.table ≡ write_to l.j l.initial.table l.base (tuple l.t))
