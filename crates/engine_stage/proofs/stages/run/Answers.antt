-- `run` is the stage's turns: what is left of the budget, from where the loop stands, comes to what the whole call comes to. Assumes nothing.
use Rattle.std.proofs.Common.{◌≡◌, ◌+◌, ◌-◌, arith}
use Rattle.engine_stage.specs.Running.{goes_again, going_start, paused_left, stops_so}
use Rattle.engine_stage.proofs.stages.run.Goals as goal

pub loop-init : goal.loop-init
loop-init c = let e : c.args.budget - 0 ≡ c.args.budget = omega arith in rw e (going_start c.args.budget c.requires)

pub turn-requires : goal.turn-requires
turn-requires c = c.loop.invariant.ready

pub loop-preserved : goal.loop-preserved
loop-preserved c =
    let e : c.args.budget - c.loop.counter - 1 ≡ c.args.budget - (c.loop.counter + 1) = omega arith in
    rw e at (goes_again c.loop.invariant (omega (arith, c.loop-test.true)) c.turn.ensures c.in-Ok.is)

pub returns-in-Err : goal.returns-in-Err
returns-in-Err c = rw c.ended.ensures (stops_so c.loop.invariant (omega (arith, c.loop-test.true)) c.turn.ensures c.in-Err.is)

pub returns : goal.returns
returns c = rw c.ended-2.ensures (paused_left c.loop.invariant (omega (arith, c.loop-test.false)))
