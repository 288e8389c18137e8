-- `start_sides` meets its contract: the check decides, and the rest begins. Assumes nothing.
use Rattle.engine.specs.Calling.{sides_enters, sides_passed, sides_refused}
use Rattle.engine.proofs.start_sides.Goals as goal

pub begin_sides-requires : goal.begin_sides-requires
begin_sides-requires c =
    let s = c.args in
    sides_enters s.p s.q s.coefs.now s.rights.now s.lower.now s.equations.now s.basis.now s.table.now s.l s.r
    c.check.ensures c.in-Ok.is

pub returns-in-Err : goal.returns-in-Err
returns-in-Err c =
    let s = c.args in
    rw c.refused.ensures
    (sides_refused s.p s.q s.coefs.now s.rights.now s.lower.now s.equations.now s.basis.now s.table.now s.l s.r
    c.check.ensures c.in-Err.is)

pub returns-in-Ok : goal.returns-in-Ok
returns-in-Ok c =
    let s = c.args in
    sides_passed s.p s.q s.coefs.now s.rights.now s.lower.now s.equations.now s.basis.now s.table.now s.l s.r
    c.check.ensures c.in-Ok.is c.begin_sides.ensures
