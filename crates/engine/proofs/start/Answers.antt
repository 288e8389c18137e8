-- `start` meets its contract: the check decides, and the rest begins. Assumes nothing.
use Rattle.engine.specs.Calling.{start_enters, start_passed, start_refused}
use Rattle.engine.proofs.start.Goals as goal

pub begin-requires : goal.begin-requires
begin-requires c = let s = c.args in start_enters s.p s.q s.coefs.now
    s.equations.now s.basis.now s.table.now s.l s.r c.basis_room-most.ensures
    c.check_start.ensures c.in-Ok.is

pub returns-in-Err : goal.returns-in-Err
returns-in-Err c = let s = c.args in rw c.refused.ensures
    (start_refused s.p s.q s.coefs.now s.equations.now s.basis.now s.table.now s.l s.r
    c.basis_room-most.ensures c.check_start.ensures
    c.in-Err.is)

pub returns-in-Ok : goal.returns-in-Ok
returns-in-Ok c = let s = c.args in start_passed s.p s.q
    s.coefs.now s.equations.now s.basis.now s.table.now s.l s.r
    c.basis_room-most.ensures
    c.check_start.ensures
    c.in-Ok.is c.begin.ensures
