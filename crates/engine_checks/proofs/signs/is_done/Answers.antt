-- `signs::is_done` meets its contract: bit k. Assumes nothing.
use Rattle.laws.proofs.MarkLaws.{mark_test}
use Rattle.engine_checks.proofs.signs.is_done.Goals as goal

pub returns : goal.returns
returns c = mark_test c.args.done c.args.k
