-- `packing::keep_zeros` meets its contract. Of the rows passed, those of value 0 have been written. Assumes nothing.
use mathlib.Core.Path.{◌≡◌}
use lib.ListN.{length}
use Rattle.definitions.specs.Tables.{at}
use Rattle.engine_rows.specs.Keeping.{zero_value}
use Rattle.engine_rows.specs.Packing.{Packed}
use Rattle.engine_rows.proofs.packing.keep_zeros.Given as goal

abbrev pub invariant-loop-i : goal.invariant-loop-i
invariant-loop-i l = (length l.basis ≡ length l.initial.basis)
    × Packed l.q l.i (zero_value l.values) (at l.table l.q) l.initial.basis l.basis l.kept
