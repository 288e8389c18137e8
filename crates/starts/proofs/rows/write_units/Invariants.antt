-- `rows::write_units` meets its contract. The rows passed have been written into the cleared table. Assumes nothing.
use mathlib.Core.Path.{◌≡◌}
use lib.ListN.{length}
use Rattle.definitions.specs.Tables.{units_to}
use Rattle.starts.proofs.rows.write_units.Given as goal

abbrev pub invariant-loop-k : goal.invariant-loop-k
invariant-loop-k l = (length l.stack ≡ length l.initial.stack) × (l.stack ≡ units_to l.k l.q l.initial.stack)
