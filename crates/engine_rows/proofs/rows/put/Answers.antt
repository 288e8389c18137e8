-- `rows::put` meets its contract. Assumes nothing.
use borrow.Author.Tests.{eq-eqb, ne_eqb}
use Rattle.engine_spec.specs.Fresh.{put_at}
use Rattle.engine_rows.proofs.rows.put.Goals as goal

pub returns-then-j-f : goal.returns-then-j-f
unfolding put_at
returns-then-j-f c = rw (eq-eqb _ _ c.if-j-f.true)

pub returns-else-j-f : goal.returns-else-j-f
unfolding put_at
returns-else-j-f c = rw (ne_eqb _ _ c.if-j-f.false)
