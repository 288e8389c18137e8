-- `packing::drop_fresh` meets its contract. Of the rows passed, those with 0 at place f have been kept; those ahead are as they were. Assumes nothing.
use mathlib.Core.Path.{◌≡◌}
use lib.ListN.{length}
use Rattle.definitions.specs.Tables.{at}
use Rattle.engine_rows.specs.Keeping.{lacks}
use Rattle.engine_rows.specs.Packing.{Packed}
use Rattle.engine_rows.proofs.packing.drop_fresh.Given as goal

abbrev pub invariant-loop-i : goal.invariant-loop-i
invariant-loop-i l = (length l.basis ≡ length l.initial.basis)
    × Packed l.q l.i (lacks l.f (at l.initial.basis l.q)) (at l.initial.basis l.q) l.initial.basis l.basis l.kept
