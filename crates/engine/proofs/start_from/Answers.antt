-- `start_from` meets its contract: the check decides, and the rest begins. Assumes nothing.
use Rattle.engine_checks.specs.Room.{basis_few}
use Rattle.engine.specs.Calling.{start_from_enters, start_from_passed, start_from_refused}
use Rattle.engine.proofs.start_from.Goals as goal

pub check_start_from-requires : goal.check_start_from-requires
check_start_from-requires c = let s = c.args in rw c.basis_room-most.ensures (basis_few s.q _ _).1

pub begin_from-requires : goal.begin_from-requires
begin_from-requires c = let s = c.args in start_from_enters s.p s.q s.coefs.now s.n s.rows.now s.equations.now s.basis.now s.table.now s.l s.r
    c.basis_room-most.ensures c.check_start_from.ensures
    c.in-Ok.is

pub returns-in-Err : goal.returns-in-Err
returns-in-Err c = let s = c.args in rw c.refused.ensures (start_from_refused s.p
    s.q s.coefs.now s.n s.rows.now s.equations.now s.basis.now s.table.now s.l s.r
    c.basis_room-most.ensures c.check_start_from.ensures
    c.in-Err.is)

pub returns-in-Ok : goal.returns-in-Ok
returns-in-Ok c = let s = c.args in start_from_passed
    s.p s.q s.coefs.now s.n s.rows.now s.equations.now s.basis.now s.table.now s.l s.r
    c.basis_room-most.ensures
    c.check_start_from.ensures
    c.in-Ok.is c.begin_from.ensures
