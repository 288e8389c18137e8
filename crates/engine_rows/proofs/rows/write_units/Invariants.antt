-- `rows::write_units` meets its contract. The rows passed have been written. Assumes nothing.
use mathlib.Core.Path.{◌≡◌}
use lib.ListN.{length}
use Rattle.linear.specs.Tuples.{unit}
use Rattle.laws.specs.Pack.{pack_to}
use Rattle.engine_rows.specs.Packing.{always}
use Rattle.engine_rows.proofs.rows.write_units.Given as goal

abbrev pub invariant-loop-i : goal.invariant-loop-i
invariant-loop-i l = (length l.table ≡ length l.initial.table) × (l.table ≡ pack_to l.i l.q l.initial.table 0 always unit)
