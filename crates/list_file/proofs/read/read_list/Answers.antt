-- `list_file::read::read_list` meets its contract: refused with nothing written, or both tables filled. Assumes nothing.
use Rattle.calls.proofs.CallLaws.{handed_on}
use Rattle.list_file.specs.ReadCallLaws.{read_refused, read_done, readable}
use Rattle.list_file.proofs.read.read_list.Goals as goal

pub hand_out-requires : goal.hand_out-requires
hand_out-requires c = let a = c.args in readable a.file.now a.coefs.now a.list.now c.check.ensures c.in_ok-check.was

pub returns-in_err-check : goal.returns-in_err-check
returns-in_err-check c =
    let a = c.args in
    rw (handed_on c.from_residual.ensures) (read_refused a.file.now a.coefs.now a.list.now c.check.ensures c.in_err-check.was)

pub returns : goal.returns
returns c = let a = c.args in read_done a.file.now a.coefs.now a.list.now c.check.ensures c.in_ok-check.was c.hand_out.ensures
