-- `resume` meets its contract: the check decides, and the turns do the rest. Assumes nothing.
use Rattle.engine_stage.specs.Standing.{sides_of}
use Rattle.engine_resume.proofs.Continuing.{resume_enters, resume_ran, resume_refused, resume_rested, resume_roomed, resume_stands}
use Rattle.engine_resume.proofs.resume.Goals as goal

pub check_standing-requires : goal.check_standing-requires
check_standing-requires c = let s = c.args in
    resume_roomed s.q s.basis.now s.sizes.now s.table.now (sides_of s.values.now s.words.now s.degrees.now s.marks.now
    s.mothers.now)
    c.basis_room-most.ensures c.stage_room-room.ensures

pub rested-requires : goal.rested-requires
rested-requires c = let s = c.args in (resume_stands s.p s.q s.budget s.equations.now s.basis.now s.sizes.now s.table.now
    (sides_of s.values.now s.words.now s.degrees.now s.marks.now s.mothers.now) s.r
    c.basis_room-most.ensures
    c.stage_room-room.ensures c.check_standing.ensures
    c.in-Ok.is).size.equations

pub returns-then-p-r : goal.returns-then-p-r
returns-then-p-r c = let s = c.args in resume_rested s.p s.q s.budget s.equations.now s.basis.now s.sizes.now s.table.now
    (sides_of s.values.now s.words.now s.degrees.now s.marks.now s.mothers.now) s.r
    c.basis_room-most.ensures
    c.stage_room-room.ensures
    c.check_standing.ensures c.in-Ok.is c.if-p-r.true
    c.rested.result c.rested.ensures.0 c.rested.ensures.1

pub go_on-requires : goal.go_on-requires
go_on-requires c = let s = c.args in resume_enters s.p s.q s.budget s.equations.now s.basis.now
    s.sizes.now s.table.now
    (sides_of s.values.now s.words.now s.degrees.now s.marks.now s.mothers.now) s.r
    c.basis_room-most.ensures
    c.stage_room-room.ensures
    c.check_standing.ensures
    c.in-Ok.is
    c.if-p-r.false

pub returns-in-Err : goal.returns-in-Err
returns-in-Err c = let s = c.args
    in rw c.refused.ensures (resume_refused s.p s.q s.budget s.equations.now s.basis.now s.sizes.now s.table.now
    (sides_of s.values.now s.words.now s.degrees.now s.marks.now s.mothers.now) s.r
    c.basis_room-most.ensures
    c.stage_room-room.ensures c.check_standing.ensures
    c.in-Err.is)

pub returns-else-p-r : goal.returns-else-p-r
returns-else-p-r c = let s = c.args in resume_ran s.p s.q s.budget s.equations.now s.basis.now s.sizes.now s.table.now
    (sides_of s.values.now s.words.now s.degrees.now s.marks.now s.mothers.now) s.r
    c.basis_room-most.ensures
    c.stage_room-room.ensures
    c.check_standing.ensures
    c.in-Ok.is
    c.if-p-r.false
    c.go_on.ensures
