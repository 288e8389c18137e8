-- `is_over` is the definition's test. Assumes nothing.
use Rattle.engine_stage.specs.Marked.{no_cap, some_cap}
use Rattle.engine_stage.proofs.tests.is_over.Goals as goal

pub returns-then-cap-eq0 : goal.returns-then-cap-eq0
returns-then-cap-eq0 c = no_cap _ _ c.if-cap-eq0.true

pub returns : goal.returns
returns c = rw c.sum.ensures (some_cap _ _ c.if-cap-eq0.false)
