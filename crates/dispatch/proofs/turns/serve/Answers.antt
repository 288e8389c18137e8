-- `dispatch::turns::serve` meets its contract. Assumes nothing.
use borrow.Author.Rules.{rules}
use native.Mathlib.Omega.{arith}
use mathlib.Core.Path.{sym, ◌∙◌, ap}
use Rattle.dispatch.specs.Form.{found_of}
use Rattle.dispatch.specs.Turning.{turning_begins, turning_more, turning_ends, turning_stops}
use Rattle.dispatch.proofs.turns.serve.Goals as goal

pub loop-turn-init : goal.loop-turn-init
loop-turn-init c = turning_begins _ _ _ _ _ _ _ _ _ (search rules)

pub returns-in_default : goal.returns-in_default
returns-in_default c =
    turning_stops c.loop-turn.invariant (sym c.next_after.ensures.found ∙ ap found_of c.in_default.is)

pub serve_run-o-requires : goal.serve_run-o-requires
serve_run-o-requires c =
    let ready = c.requires in
    let inv = c.loop-turn.invariant in
    record {
      size_in_bounds = omega (arith, ready.stacks _ c.in-Some.ensures.below, inv.stacks);
      size_in_bounds_2 = omega (arith, ready.lists _ c.in-Some.ensures.below, inv.lists);
    }

pub loop-turn-preserved : goal.loop-turn-preserved
loop-turn-preserved c =
    turning_more c.loop-turn.invariant c.loop-turn-test.true (omega (arith, c.in-Some.ensures.below, c.requires.few)) (sym c.in-Some.ensures.found)
    c.serve_run-o.result c.serve_run-o.ensures c.serve_run-o.auto.stack c.serve_run-o.auto.list

pub returns : goal.returns
returns c = turning_ends c.loop-turn.invariant c.loop-turn-test.false
