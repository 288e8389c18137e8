-- `c_dispatch::dispatch` meets its contract. Assumes nothing.
use Rattle.c_dispatch.proofs.WordLaws.{dispatched, fitting}
use Rattle.c_dispatch.proofs.dispatch.Goals as goal

pub told-requires : goal.told-requires
told-requires c =
    let s = c.args in
    fitting s.count s.quantum s.turns s.shares.now s.coefs.now s.stack.now s.list.now s.round.now
    c.shares-all.ensures c.records-records.ensures c.last-last.ensures c.dispatch-d.result c.dispatch-d.ensures

pub returns : goal.returns
returns c =
    let s = c.args in
    dispatched s.count s.quantum s.turns s.shares.now s.coefs.now s.stack.now s.list.now s.round.now
    c.shares-all.ensures c.records-records.ensures c.last-last.ensures c.dispatch-d.result c.dispatch-d.ensures c.told.ensures
