-- `order_of` meets its contract. So many unknowns of the order are written. Assumes nothing.
use Rattle.single_order.specs.Following.{following_closed, following_early, following_first, following_next, following_open, following_stuck}
use Rattle.single_order.specs.Following.{large_no_loop, unnamed_no_loop}
use Rattle.std.proofs.Common.{rules}
use Rattle.single_order.proofs.order_of.Goals as goal

pub returns-in_err-size : goal.returns-in_err-size
returns-in_err-size c = rw c.from_residual.ensures (large_no_loop _ _ _ c.in_err-size.ensures c.requires.2)

pub returns-in_err-first : goal.returns-in_err-first
returns-in_err-first c = rw c.from_residual-in_err-first.ensures (unnamed_no_loop _ _ _ c.in_err-first.ensures c.requires.2)

pub loop-k-init : goal.loop-k-init
loop-k-init c = following_first _ _ c.args.order.now _ _ c.in_ok-size.ensures c.requires.2 c.in_ok-first.ensures

pub returns-in_err-at : goal.returns-in_err-at
returns-in_err-at c = rw c.from_residual-in_err-at.ensures (following_stuck _ _ c.loop-k.invariant c.loop-k-test.true c.in_err-at.ensures)

pub returns-then-at-first : goal.returns-then-at-first
returns-then-at-first c = following_early _ _ c.loop-k.invariant _ c.loop-k-test.true c.in_ok-at.ensures c.if-at-first.true

pub loop-k-preserved : goal.loop-k-preserved
loop-k-preserved c = following_next _ _ c.loop-k.invariant _ c.requires.0 c.loop-k-test.true c.in_ok-at.ensures c.if-at-first.false

pub returns-then-eq : goal.returns-then-eq
returns-then-eq c = following_closed _ _ c.loop-k.invariant c.loop-k-test.false (search rules)

pub returns : goal.returns
returns c = following_open _ _ c.loop-k.invariant c.loop-k-test.false (search rules)
