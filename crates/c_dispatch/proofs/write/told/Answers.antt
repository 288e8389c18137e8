-- `c_dispatch::write::told` meets its contract. Assumes nothing.
use Rattle.c_dispatch.proofs.WordLaws.{fitting_pass, told_refused, told_served}
use Rattle.c_dispatch.proofs.write.told.Goals as goal

pub served-requires : goal.served-requires
served-requires c =
    fitting_pass c.args.words.now c.in-Ok.is c.requires

pub returns-in-Err : goal.returns-in-Err
returns-in-Err c =
    let s = c.args in
    told_refused s.words.now s.d c.in-Err.is c.fault.ensures

pub returns-in-Ok : goal.returns-in-Ok
returns-in-Ok c =
    let s = c.args in
    told_served s.words.now s.d c.in-Ok.is c.served.ensures
