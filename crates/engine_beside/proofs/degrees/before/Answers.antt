-- `degrees::before` meets its contract. Assumes nothing.
use Rattle.std.proofs.Common.{refl}
use Rattle.engine_beside.specs.Rising.{before, before_later, degree_at}
use Rattle.engine_beside.proofs.degrees.before.Goals as goal

pub returns-then-i-eq0 : goal.returns-then-i-eq0
unfolding before
returns-then-i-eq0 c = rw c.if-i-eq0.true refl

pub returns-else-i-eq0 : goal.returns-else-i-eq0
returns-else-i-eq0 c = before_later (degree_at c.args.degrees.now) c.args.i c.if-i-eq0.false
