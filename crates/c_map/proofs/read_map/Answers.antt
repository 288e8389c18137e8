-- `read_map` meets its contract. Assumes nothing.
use Rattle.c_map.proofs.Words.{told_fits, told_map, told_refused}
use Rattle.c_map.proofs.read_map.Goals as goal

pub refusal-requires : goal.refusal-requires
refusal-requires c = told_fits _ _ _ c.read_map.ensures c.in-Err.is

pub returns-in-Ok : goal.returns-in-Ok
returns-in-Ok c = told_map _ _ _ _ c.read_map.ensures c.in-Ok.is

pub returns-in-Err : goal.returns-in-Err
returns-in-Err c =
    told_refused _ _ _ _ c.read_map.ensures c.in-Err.is c.refusal.ensures
