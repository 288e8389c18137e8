-- `dispatch::turn::inside` meets its contract. Assumes nothing.
use native.Mathlib.Omega.{arith}
use Rattle.dispatch.specs.Cut.{inside_none, inside_whole}
use Rattle.dispatch.proofs.turn.inside.Goals as goal

pub returns-then-len-start : goal.returns-then-len-start
returns-then-len-start c = inside_none _ _ _ (omega arith) (omega (arith, c.if-len-start.true))

pub returns-then-len-start-2 : goal.returns-then-len-start-2
returns-then-len-start-2 c = inside_none _ _ _ (omega (arith, c.if-len-start.false)) (omega (arith, c.if-len-start-2.true, c.if-len-start.false))

pub returns : goal.returns
returns c = inside_whole _ _ (omega (arith, c.if-len-start-2.false, c.if-len-start.false))
