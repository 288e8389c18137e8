-- `list_file::read::checking::words_in_range` meets its contract. Every word passed is in range. Assumes nothing.
use Rattle.std.proofs.Common.{◌≡◌, ◌+◌, ◌*◌, true}
use Rattle.linear.specs.Tests.{all_to}
use Rattle.list_spec.specs.Reading.{in_block, stream_word_in_range}
use Rattle.list_file.proofs.read.checking.words_in_range.Given as goal

abbrev pub invariant-loop-j : goal.invariant-loop-j
invariant-loop-j l = all_to l.j (λ k. stream_word_in_range l.coefs l.rows (126 * l.b + k) (in_block l.file (l.b + 1) (k + 1))) ≡ true
