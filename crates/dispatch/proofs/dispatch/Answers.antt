-- `dispatch::dispatch` meets its contract. Assumes nothing.
use mathlib.Core.Path.{◌≡◌}
use lib.ListN.{length}
use Rattle.dispatch.specs.Entry.{ready, rising, returns_refused, returns_served}
use borrow.Author.Rules.{rules}
use Rattle.dispatch.proofs.dispatch.Goals as goal
use Rattle.dispatch.proofs.dispatch.Goals.{Start}

-- the records are eight
records_long : (c : Start) → length c.args.records ≡ 8
records_long c = search rules

pub serve-s-requires : goal.serve-s-requires
serve-s-requires c =
    let s = c.args in
    let told = c.in-Ok.is in
    ready s.count s.shares s.coefs.now s.quantum s.stack.now s.list.now s.records s.last s.turns c.check.ensures told

pub finish-f-requires : goal.finish-f-requires
finish-f-requires c =
    let s = c.args in
    let told = c.in-Ok.is in
    let kept = c.serve-s.auto in
    let long = records_long (goal.at.finish-f-requires c).Start in record {
      ready = rw (kept.stack, kept.list)
          (ready s.count s.shares s.coefs.now s.quantum s.stack.now s.list.now s.records s.last s.turns
          c.check.ensures told);
      rising = rising s.count s.shares s.coefs.now s.quantum s.stack.now s.list.now s.records s.last s.turns
          c.check.ensures told long c.unserved-before.ensures c.serve-s.result.progress c.serve-s.ensures;
    }

pub returns-in-Err : goal.returns-in-Err
returns-in-Err c =
    let s = c.args in
    returns_refused s.count s.shares s.coefs.now s.quantum s.stack.now s.list.now s.records s.last s.turns
    c.check.ensures c.in-Err.is c.refused.result c.refused.ensures

pub returns-in-Ok : goal.returns-in-Ok
returns-in-Ok c =
    let s = c.args in
    let told = c.in-Ok.is in
    let long = records_long (goal.at.returns-in-Ok c).Start in
    returns_served s.count s.shares s.coefs.now s.quantum s.stack.now s.list.now s.records s.last s.turns
    c.check.ensures told long c.unserved-before.ensures c.serve-s.result.progress c.serve-s.ensures c.finish-f.ensures
