-- `equation_read::bytes::skip` meets its contract. Assumes nothing.
use Rattle.std.proofs.Common.{◌∙◌}
use Rattle.equation_read.specs.ByteLaws.{skip_end, skip_stop, skip_next}
use Rattle.equation_read.proofs.bytes.skip.Goals as goal

pub loop-i-preserved : goal.loop-i-preserved
loop-i-preserved c = skip_next _ _ c.loop-i-test.true c.if-text-i-eq32.true ∙ c.loop-i.invariant

pub returns-else-text-i-eq32 : goal.returns-else-text-i-eq32
returns-else-text-i-eq32 c = skip_stop _ _ c.loop-i-test.true c.if-text-i-eq32.false ∙ c.loop-i.invariant

pub returns-after-loop-i : goal.returns-after-loop-i
returns-after-loop-i c = skip_end _ _ c.loop-i-test.false ∙ c.loop-i.invariant
