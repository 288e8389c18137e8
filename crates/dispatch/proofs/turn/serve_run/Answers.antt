-- `dispatch::turn::serve_run` meets its contract. Assumes nothing.
use Rattle.dispatch.specs.Cut.{cut_same}
use Rattle.dispatch.proofs.turn.serve_run.Goals as goal

pub returns : goal.returns
returns c =
    rw (cut_same _ c.inside-c.ensures) at c.serve.ensures
