-- `list_file::read::checking::check_stream` meets its contract. Every block passed is in order. Assumes nothing.
use Rattle.std.proofs.Common.{◌≡◌}
use Rattle.definitions.specs.Answers.{go}
use Rattle.list_spec.specs.Reading.{stream_checks}
use Rattle.list_file.proofs.read.checking.check_stream.Given as goal

abbrev pub invariant-loop-b : goal.invariant-loop-b
invariant-loop-b l = stream_checks l.file l.coefs l.rows l.b ≡ go
