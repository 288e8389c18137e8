-- `dropped` meets its contract: a yes names a row that reduces the sum. Assumes nothing.
use Rattle.engine_reduce.specs.Sums.{never}
use Rattle.engine_reduce.proofs.sums.dropped.Goals as goal

pub returns-then-reduces : goal.returns-then-reduces
returns-then-reduces c = record { named = λ e. c.reduces.ensures.named c.if-reduces.true }

pub returns : goal.returns
returns c = record { named = λ e. never e }
