-- `list_file::words::word_at` meets its contract: each byte is widened and weighed by its place. Assumes nothing.
use Rattle.std.proofs.Common.{arith}
use Rattle.list_spec.specs.Words.{word_at}
use Rattle.list_file.proofs.words.word_at.Goals as goal

pub returns : goal.returns
unfolding word_at
returns c = omega arith
