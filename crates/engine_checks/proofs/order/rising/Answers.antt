-- `order::rising` meets its contract: the degrees passed rise, and the last one is remembered. Assumes nothing.
use Rattle.std.proofs.Common.{sym, ◌∙◌, le_antisymm}
use Rattle.linear.proofs.LoopLaws.{all_fails, all_next, all_none}
use Rattle.engine_spec.specs.Calls.{is_rising}
use Rattle.engine_checks.specs.Order.{before_first, before_next, rises_is}
use Rattle.engine_checks.proofs.order.rising.Invariants.{degrees_of}
use Rattle.engine_checks.proofs.order.rising.Goals as goal

pub loop-i-init : goal.loop-i-init
loop-i-init c = (before_first _, all_none _)

pub returns-then-not-rises : goal.returns-then-not-rises
unfolding is_rising
returns-then-not-rises c = let s = c.args in
    sym (all_fails _ _ _ c.loop-i-test.true
    (sym (rises_is (degrees_of s.table.now s.q) s.d c.loop-i.i c.loop-i.invariant.0 c.degree_at-degree.ensures
    c.rises.ensures) ∙ c.if-not-rises.true))

pub loop-i-preserved : goal.loop-i-preserved
loop-i-preserved c = let s = c.args in (
  c.degree_at-degree.ensures ∙ before_next (degrees_of s.table.now s.q) c.loop-i.i,
  all_next _ _ c.loop-i.invariant.1
      (sym (rises_is (degrees_of s.table.now s.q) s.d c.loop-i.i c.loop-i.invariant.0 c.degree_at-degree.ensures
      c.rises.ensures) ∙ c.if-not-rises.false),
)

pub returns : goal.returns
unfolding is_rising
returns c = sym (rw (le_antisymm c.loop-i.auto.i-end c.loop-i-test.false) at c.loop-i.invariant.1)
