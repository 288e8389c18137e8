-- `list_file::words::all_within` meets its contract. The answer so far is that for the words passed. Assumes nothing.
use Rattle.std.proofs.Common.{◌≡◌, ◌+◌, leb}
use Rattle.linear.specs.Tests.{all_to}
use Rattle.list_spec.specs.Words.{word_at}
use Rattle.list_file.proofs.words.all_within.Given as goal

abbrev pub invariant-loop-j : goal.invariant-loop-j
invariant-loop-j l = l.within ≡ all_to l.j (λ k. leb (word_at l.bytes (l.first + k)) l.limit)
