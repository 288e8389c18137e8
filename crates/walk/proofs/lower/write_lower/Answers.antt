-- `walk::lower::write_lower` meets its contract. Assumes nothing.
use native.Mathlib.Nat.{zero-add, zero-mul}
use Rattle.definitions.specs.Tables.{write_row}
use Rattle.walk.proofs.lower.write_lower.Goals as goal

pub returns : goal.returns
unfolding write_row
returns c = rw (zero-mul, zero-add, c.write.ensures)
