-- `rows::lower` meets its contract. Assumes nothing.
use Rattle.std.proofs.Common.{◌∙◌}
use Rattle.multiples.proofs.Taking.{lower_min, lower_none}
use Rattle.multiples.proofs.rows.lower.Goals as goal

pub returns-then-a-eq0 : goal.returns-then-a-eq0
returns-then-a-eq0 c = lower_none _ _ _ c.if-a-eq0.true

pub returns-else-a-eq0 : goal.returns-else-a-eq0
returns-else-a-eq0 c = c.min.ensures ∙ lower_min _ _ _ c.if-a-eq0.false
