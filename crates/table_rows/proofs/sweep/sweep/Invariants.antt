-- `sweep::sweep` meets its contract. Of the rows passed those that stay stand one behind the other. Assumes nothing.
use Rattle.table_rows.specs.Keeping.{Kept}
use Rattle.laws.specs.Sweep.{keeps}
use Rattle.definitions.specs.Tables.{at}
use lib.ListN.{length}
use mathlib.Core.Path.{◌≡◌}
use Rattle.table_rows.proofs.sweep.sweep.Given as goal

abbrev pub invariant-loop-i : goal.invariant-loop-i
invariant-loop-i l = (length l.table ≡ length l.initial.table)
    × Kept l.q l.i (keeps l.q l.n (at l.initial.table l.q)) l.initial.table l.table l.kept
