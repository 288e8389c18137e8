-- `writing::copy_rows` meets its contract: the numbers passed have been written. Assumes nothing.
use mathlib.Core.Path.{refl}
use native.Mathlib.Nat.{zero-add}
use Rattle.definitions.specs.Tables.{write_to}
use Rattle.laws.proofs.TableLaws.{write_next}
use Rattle.engine_begins.proofs.writing.copy_rows.Goals as goal

pub loop-i-init : goal.loop-i-init
unfolding write_to
loop-i-init c = refl

pub loop-i-preserved : goal.loop-i-preserved
loop-i-preserved c = rw (write_next, zero-add, c.loop-i.invariant)
