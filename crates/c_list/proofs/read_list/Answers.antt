-- `c_list::read_list` meets its contract: each answer as its number. Assumes nothing.
use Rattle.c_list.specs.CodeLaws.{read_refusal_fits, read_refused_told, read_list_told}
use Rattle.c_list.proofs.read_list.Goals as goal

pub refusal-requires : goal.refusal-requires
refusal-requires c =
    let a = c.args in
    read_refusal_fits a.file.now a.coefs.now a.list.now c.read_list.ensures c.in-Err.is

pub returns-in-Err : goal.returns-in-Err
returns-in-Err c =
    let a = c.args in
    read_refused_told a.file.now a.coefs.now a.list.now c.read_list.ensures a.words.now c.in-Err.is
    c.refusal.ensures

pub returns-in-Ok : goal.returns-in-Ok
returns-in-Ok c =
    let a = c.args in
    read_list_told a.file.now a.coefs.now a.list.now c.read_list.ensures a.words.now c.in-Ok.is
