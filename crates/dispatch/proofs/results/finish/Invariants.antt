-- `dispatch::results::finish` meets its contract. Assumes nothing.
use Rattle.dispatch.specs.Finish.{Finishing}
use Rattle.dispatch.proofs.results.finish.Given as goal

abbrev pub invariant-loop-i : goal.invariant-loop-i
invariant-loop-i l =
    Finishing l.count l.shares l.coefs l.stack l.list l.records l.progress l.outcomes l.steps l.i
