-- `combine` meets its contract: the check decides, and the operation is made. Assumes nothing.
use mir.Facts.{to_z-of_z}
use Rattle.engine.specs.Calling.{combine_enters, combine_passed, combine_refused, lent_roomed}
use Rattle.engine.proofs.combine.Goals as goal

pub check_combine-requires : goal.check_combine-requires
check_combine-requires c = lent_roomed c.args.p c.args.q c.args.equations.now
    c.args.basis.now c.args.table.now c.args.l c.args.run c.basis_room-most.ensures c.stage_room-room.ensures

pub operate-requires : goal.operate-requires
operate-requires c = simp (to_z-of_z c.ranges.u, to_z-of_z c.ranges.t)
    (combine_enters c.args.p c.args.q c.args.equations.now c.args.basis.now c.args.table.now c.args.l c.args.run
    c.basis_room-most.ensures c.stage_room-room.ensures c.args.r
    c.args.s c.args.u c.args.t (simp (to_z-of_z c.ranges.u, to_z-of_z c.ranges.t) at c.check_combine.ensures)
    c.in-Ok.is)

pub returns-in-Err : goal.returns-in-Err
returns-in-Err c = rw c.refused.ensures
    (combine_refused c.args.p c.args.q c.args.equations.now c.args.basis.now c.args.table.now c.args.l c.args.run
    c.basis_room-most.ensures
    c.stage_room-room.ensures c.args.r c.args.s c.args.u c.args.t
    (simp (to_z-of_z c.ranges.u, to_z-of_z c.ranges.t) at c.check_combine.ensures)
    c.in-Err.is)

pub returns-in-Ok : goal.returns-in-Ok
returns-in-Ok c = combine_passed c.args.p c.args.q c.args.equations.now c.args.basis.now c.args.table.now c.args.l c.args.run
    c.basis_room-most.ensures
    c.stage_room-room.ensures c.args.r c.args.s c.args.u c.args.t
    (simp (to_z-of_z c.ranges.u, to_z-of_z c.ranges.t) at c.check_combine.ensures)
    c.in-Ok.is
    (simp (to_z-of_z c.ranges.u, to_z-of_z c.ranges.t) at c.operate.ensures)
