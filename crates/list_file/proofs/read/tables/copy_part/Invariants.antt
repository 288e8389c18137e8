-- `list_file::read::tables::copy_part` meets its contract. The entries passed are those of the stream, and the others are as they were. Assumes nothing.
use Rattle.std.proofs.Common.{◌≡◌, ℕ, ◌+◌, List, length}
use Rattle.list_spec.specs.Reading.{stream_at}
use Rattle.list_file.specs.ReadLaws.{Filled}
use Rattle.list_file.proofs.read.tables.copy_part.Given as goal

abbrev pub invariant-loop-j : goal.invariant-loop-j
invariant-loop-j l = record {
  same : length l.list ≡ length l.initial.list;
  filled : (table : List ℕ) → Filled (λ k. stream_at l.file (l.first + k)) l.i table l.initial.list
      → Filled (λ k. stream_at l.file (l.first + k)) (l.i + l.j) table l.list;
}
