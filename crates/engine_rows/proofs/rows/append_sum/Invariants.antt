-- `rows::append_sum` meets its contract. The components passed have been written, and the two rows, which stand before them, are as they were. Assumes nothing.
use mathlib.Core.Path.{◌≡◌}
use lib.ListN.{length}
use Rattle.definitions.specs.Tables.{write_to}
use Rattle.engine_spec.specs.Beside.{row_at}
use Rattle.engine_spec.specs.Signs.{plus}
use Rattle.engine_rows.proofs.rows.append_sum.Given as goal

abbrev pub invariant-loop-j : goal.invariant-loop-j
invariant-loop-j l = (length l.table ≡ length l.initial.table)
    × (l.table ≡ write_to l.j l.initial.table l.to (plus (row_at l.initial.table l.x) (row_at l.initial.table l.y)))
