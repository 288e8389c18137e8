-- `list_file::write::write_list` meets its contract: refused with nothing written, or all written. Assumes nothing.
use Rattle.calls.proofs.CallLaws.{handed_on}
use Rattle.list_spec.specs.Form.{ListFile}
use Rattle.list_file.specs.WriteAnswer.{list_of}
use Rattle.list_file.specs.WriteCallLaws.{write_refused, write_done, writable}
use Rattle.list_file.proofs.write.write_list.Goals as goal
use Rattle.list_file.proofs.write.write_list.Goals.{Start}

abbrev list : Start → ListFile
list s = list_of s.args.p s.args.q s.args.coefs.now s.args.rows.now s.args.ending

pub write-requires : goal.write-requires
write-requires c = writable (list (goal.at.write-requires c).Start) c.args.out.now c.check.ensures c.in_ok-check.was

pub returns-in_err-check : goal.returns-in_err-check
returns-in_err-check c =
    rw (handed_on c.from_residual.ensures)
    (write_refused (list (goal.at.returns-in_err-check c).Start) c.args.out.now c.check.ensures c.in_err-check.was)

pub returns : goal.returns
returns c = write_done (list (goal.at.returns c).Start) c.args.out.now c.check.ensures c.in_ok-check.was c.write.ensures
