-- `rows::copy` meets its contract. The rows passed are written. Assumes nothing.
use mathlib.Core.Path.{◌≡◌}
use Prim.Native.Nat.{◌+◌}
use lib.ListN.{length}
use Rattle.definitions.specs.Tables.{at}
use Rattle.reformulation_spec.specs.Reformulation.{project_to}
use Rattle.reformulation.proofs.rows.copy.Given as goal

abbrev pub invariant-loop-i : goal.invariant-loop-i
invariant-loop-i l = (length l.out ≡ length l.initial.out) × (l.out ≡ project_to l.i l.q (at l.rows (l.q + l.k)) l.initial.out)
