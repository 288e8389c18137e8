-- `list_file::words::wrapping_sum` meets its contract. The sum is that of the words passed, modulo 2^32. Assumes nothing.
use Rattle.list_spec.specs.Words.{word_at, wrapping_sum}
use Rattle.std.proofs.Common.{◌≡◌, ◌+◌}
use Rattle.list_file.proofs.words.wrapping_sum.Given as goal

abbrev pub invariant-loop-j : goal.invariant-loop-j
invariant-loop-j l = l.sum ≡ wrapping_sum l.j (λ k. word_at l.bytes (l.first + k))
