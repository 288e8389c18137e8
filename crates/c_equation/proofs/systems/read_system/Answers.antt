-- `c_equation::systems::read_system` meets its contract: each answer as its number. Assumes nothing.
use Rattle.c_equation.proofs.SystemLaws.{system_refusal_fits, system_few, system_refused_told, system_told_lem}
use Rattle.c_equation.proofs.systems.read_system.Goals as goal

pub read_code-requires : goal.read_code-requires
read_code-requires c =
    let a = c.args in
    system_few a.q a.text.now a.coefs.now a.rights.now c.read_system.result _ _ c.read_system.ensures c.in-Ok.is

pub refusal-requires : goal.refusal-requires
refusal-requires c =
    let a = c.args in
    system_refusal_fits a.q a.text.now a.coefs.now a.rights.now c.read_system.result _ _ c.read_system.ensures c.in-Err.is

pub returns-in-Ok : goal.returns-in-Ok
returns-in-Ok c =
    let a = c.args in
    system_told_lem a.q a.text.now a.coefs.now a.rights.now c.read_system.result _ _ c.read_system.ensures a.within.now
    c.in-Ok.is c.read_code.ensures

pub returns-in-Err : goal.returns-in-Err
returns-in-Err c =
    let a = c.args in
    system_refused_told a.q a.text.now a.coefs.now a.rights.now c.read_system.result _ _ c.read_system.ensures a.within.now
    c.in-Err.is c.refusal.ensures c.place.ensures
