-- `c_list::write_list` meets its contract: each answer as its number. Assumes nothing.
use Rattle.list_spec.specs.Form.{ListFile}
use Rattle.list_file.specs.WriteAnswer.{list_of}
use Rattle.c_list.specs.CodeLaws.{write_refusal_fits, write_refused_told, write_whole_told}
use Rattle.c_list.proofs.write_list.Goals as goal
use Rattle.c_list.proofs.write_list.Goals.{Start}

abbrev list : Start → ListFile
list s = list_of s.args.p s.args.q s.args.coefs.now s.args.rows.now s.args.ending

pub refusal-requires : goal.refusal-requires
refusal-requires c =
    write_refusal_fits (list (goal.at.refusal-requires c).Start) c.args.out.now c.write_list.ensures c.in-Err.is

pub returns-in-Ok : goal.returns-in-Ok
returns-in-Ok c =
    write_whole_told (list (goal.at.returns-in-Ok c).Start) c.args.out.now c.write_list.ensures c.in-Ok.is

pub returns-in-Err : goal.returns-in-Err
returns-in-Err c =
    write_refused_told (list (goal.at.returns-in-Err c).Start) c.args.out.now c.write_list.ensures c.in-Err.is c.refusal.ensures
