-- `dispatch::turn::serve` meets its contract. Assumes nothing.
use Rattle.dispatch.specs.TurnBack.{placed_back}
use Rattle.dispatch.proofs.turn.serve.Goals as goal

pub returns : goal.returns
returns c =
    let s = c.args in
    placed_back s.a s.b _ _ s.quantum _ s.r c.resumed.result c.resumed.ensures
