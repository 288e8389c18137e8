-- `listed` meets its contract. What the listing answered is told on as one number. Assumes nothing.
use Rattle.c_single.specs.SingleFileLaws.{refused_small, told_refused, told_written}
use Rattle.c_single.proofs.listed.Goals as goal

pub coded-requires-in-Err : goal.coded-requires-in-Err
coded-requires-in-Err c =
    refused_small c.in-Err.is c.number_of.ensures

pub returns-in-Ok : goal.returns-in-Ok
returns-in-Ok c = told_written c.listed.ensures c.in-Ok.is c.coded.ensures

pub returns-in-Err : goal.returns-in-Err
returns-in-Err c =
    told_refused c.listed.ensures c.in-Err.is c.number_of.ensures c.value_of.ensures
    c.coded-in-Err.ensures
