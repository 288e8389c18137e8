-- `rows::add` meets its contract. The components passed have been added. Assumes nothing.
use lib.ListN.{length}
use mathlib.Core.Path.{◌≡◌}
use Rattle.desk_rows.specs.Rows.{Raised}
use Rattle.desk_rows.proofs.rows.add.Given as goal

abbrev pub invariant-loop-j : goal.invariant-loop-j
invariant-loop-j l = (length l.z ≡ length l.initial.z) × Raised l.j l.z l.t l.table l.base
