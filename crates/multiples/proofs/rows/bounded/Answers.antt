-- `rows::bounded` meets its contract. Assumes nothing.
use Rattle.multiples.proofs.Taking.{bounded_none, bounded_some}
use Rattle.multiples.proofs.rows.bounded.Goals as goal

pub returns-then-n : goal.returns-then-n
returns-then-n c = bounded_none _ c.if-n.true

pub returns-else-n : goal.returns-else-n
returns-else-n c = bounded_some _ c.if-n.false
