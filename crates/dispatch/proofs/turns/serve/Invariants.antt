-- `dispatch::turns::serve` meets its contract. Assumes nothing.
use Rattle.dispatch.specs.Form.{round_for}
use Rattle.dispatch.specs.Turning.{Turning}
use Rattle.dispatch.proofs.turns.serve.Given as goal

abbrev pub invariant-loop-turn : goal.invariant-loop-turn
invariant-loop-turn l =
    Turning l.count l.shares l.coefs l.quantum (round_for l.initial.stack l.initial.list l.initial.all l.initial.number) l.turns l._turn l.stack l.list l.all
    l.number
