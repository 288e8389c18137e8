-- `take` meets its contract: the check decides, and the stage begins. Assumes nothing.
use Rattle.engine.specs.Calling.{lent_roomed, take_enters, take_passed, take_refused}
use Rattle.engine.proofs.take.Goals as goal

pub check_take-requires : goal.check_take-requires
check_take-requires c = let s = c.args in lent_roomed s.p s.q s.equations.now s.basis.now
    s.table.now s.l s.r c.basis_room-most.ensures c.stage_room-room.ensures

pub take-requires : goal.take-requires
take-requires c = let s = c.args in take_enters s.p s.q s.equations.now
    s.basis.now s.table.now s.l s.r c.basis_room-most.ensures
    c.stage_room-room.ensures s.e s.f c.check_take.ensures
    c.in-Ok.is

pub returns-in-Err : goal.returns-in-Err
returns-in-Err c = let s = c.args in rw c.refused.ensures
    (take_refused s.p s.q s.equations.now s.basis.now s.table.now s.l s.r
    c.basis_room-most.ensures
    c.stage_room-room.ensures s.e s.f c.check_take.ensures
    c.in-Err.is)

pub returns-in-Ok : goal.returns-in-Ok
returns-in-Ok c = let s = c.args in take_passed s.p s.q
    s.equations.now s.basis.now s.table.now s.l s.r c.basis_room-most.ensures c.stage_room-room.ensures s.e s.f
    c.check_take.ensures c.in-Ok.is
    c.take.ensures
