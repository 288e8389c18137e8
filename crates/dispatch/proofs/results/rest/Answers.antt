-- `dispatch::results::rest` meets its contract. Assumes nothing.
use Rattle.dispatch.specs.Idle.{rest_done, rest_more}
use Rattle.dispatch.proofs.results.rest.Goals as goal

pub returns-then-height-eq0 : goal.returns-then-height-eq0
returns-then-height-eq0 c = rest_done _ c.if-height-eq0.true

pub returns : goal.returns
returns c = rest_more _ c.if-height-eq0.false
