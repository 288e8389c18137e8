-- `rows::copy` meets its contract. The numbers passed have been written, and those ahead are as they were. Assumes nothing.
use Rattle.table_rows.specs.Small.{row_at}
use Rattle.definitions.specs.Tables.{write_to}
use lib.ListN.{length}
use mathlib.Core.Path.{◌≡◌}
use Rattle.table_rows.proofs.rows.copy.Given as goal

abbrev pub invariant-loop-j : goal.invariant-loop-j
invariant-loop-j l = (length l.table ≡ length l.initial.table) × (l.table ≡ write_to l.j l.initial.table l.to (row_at l.initial.table l.from))
