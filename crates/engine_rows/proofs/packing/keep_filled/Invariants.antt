-- `packing::keep_filled` meets its contract. Of the rows passed, those with a value not below 0 have been written, filled. Assumes nothing.
use mathlib.Core.Path.{◌≡◌}
use lib.ListN.{length}
use Rattle.definitions.specs.Tables.{at}
use Rattle.engine_rows.specs.Keeping.{filled_row, not_below_value}
use Rattle.engine_rows.specs.Packing.{Packed}
use Rattle.engine_rows.proofs.packing.keep_filled.Given as goal

abbrev pub invariant-loop-i : goal.invariant-loop-i
invariant-loop-i l =
    (length l.basis ≡ length l.initial.basis)
    × Packed l.q l.i (not_below_value l.values) (filled_row l.f l.values (at l.table l.q)) l.initial.basis l.basis l.kept
