-- `list_file::read::tables::copy_rows` meets its contract. The entries passed are those of the stream, and the others are as they were. Assumes nothing.
use Rattle.std.proofs.Common.{◌≡◌, ◌+◌, ◌-◌, ◌≤◌, length}
use Rattle.list_spec.specs.Reading.{stream_at}
use Rattle.list_file.specs.ReadLaws.{Filled}
use Rattle.list_file.proofs.read.tables.copy_rows.Given as goal

abbrev pub invariant-loop-i : goal.invariant-loop-i
invariant-loop-i l = (l.i ≤ l.n) × (length l.list ≡ length l.initial.list) × Filled (λ k. stream_at l.file (l.first + k)) l.i l.initial.list l.list

abbrev pub decreases-loop-i : goal.decreases-loop-i
decreases-loop-i l = l.n - l.i
