-- `list_file::read::tables::copy_coefs` meets its contract. The entries passed are those of the stream, and the others are as they were. Assumes nothing.
use Rattle.std.proofs.Common.{◌≡◌, ◌++◌, length, drop}
use Rattle.list_spec.specs.Reading.{stream_at, listed}
use Rattle.list_spec.specs.Words.{signed}
use Rattle.list_file.proofs.read.tables.copy_coefs.Given as goal

abbrev pub invariant-loop-i : goal.invariant-loop-i
invariant-loop-i l = record {
  same : length l.coefs ≡ length l.initial.coefs;
  copied : l.coefs ≡ listed l.i (λ k. signed (stream_at l.file k)) ++ drop l.i l.initial.coefs;
}
