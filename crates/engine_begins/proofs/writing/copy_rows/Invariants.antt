-- `writing::copy_rows` meets its contract: the numbers passed have been written. Assumes nothing.
use mathlib.Core.Path.{◌≡◌}
use lib.ListN.{get_or}
use Rattle.definitions.specs.Tables.{write_to}
use Rattle.engine_begins.proofs.writing.copy_rows.Given as goal

abbrev pub invariant-loop-i : goal.invariant-loop-i
invariant-loop-i l = l.basis ≡ write_to l.i l.initial.basis 0 (λ k. get_or l.rows k 0)
