-- `list_file::write::checking::check` meets its contract: the first of the counts, the coefficients and the rest to refuse decides. Assumes nothing.
use Rattle.std.proofs.Common.{◌∙◌}
use Rattle.std.proofs.lemmas.Result.{err_from_is_err_and}
use Rattle.definitions.specs.Answers.{◌then◌}
use Rattle.calls.proofs.CallLaws.{passes}
use Rattle.checks.specs.CheckLaws.{refused_first, passed_first}
use Rattle.checks.specs.Coefficients.{coefficient_checks}
use Rattle.list_spec.specs.Form.{ListFile}
use Rattle.list_file.specs.WriteAnswer.{list_of}
use Rattle.list_file.specs.WriteCheckLaws.{list_checks, counts_in, write_stages}
use Rattle.list_file.proofs.write.checking.check.Goals as goal
use Rattle.list_file.proofs.write.checking.check.Goals.{Start}

abbrev list : Start → ListFile
list s = list_of s.args.p s.args.q s.args.coefs.now s.args.rows.now s.args.ending

pub returns-in_err-check : goal.returns-in_err-check
returns-in_err-check c =
    let s = (goal.at.returns-in_err-check c).Start in
    let p = err_from_is_err_and c.from_residual.result c.from_residual.ensures.1 in
    rw (p.1, p.2)
    (refused_first (coefficient_checks (list s).coefs then list_checks (list s) c.args.room) c.in_err-check.was c.check.ensures
    ∙ write_stages (list s) c.args.room)

pub returns-in_err-check-2 : goal.returns-in_err-check-2
returns-in_err-check-2 c =
    let s = (goal.at.returns-in_err-check-2 c).Start in
    let p = err_from_is_err_and c.from_residual-in_err-check-2.result c.from_residual-in_err-check-2.ensures.1 in
    rw (p.1, p.2)
    (refused_first (list_checks (list s) c.args.room) c.in_err-check-2.was c.check-2.ensures
    ∙ passed_first (coefficient_checks (list s).coefs then list_checks (list s) c.args.room) c.in_ok-check.was c.check.ensures
    ∙ write_stages (list s) c.args.room)

pub check_rows-requires : goal.check_rows-requires
check_rows-requires c =
    let counts = counts_in _ _ _ (passes c.check.ensures c.in_ok-check.was) in
    (counts.q_some, counts.q_few, counts.coefs_few)

pub returns : goal.returns
returns c =
    let s = (goal.at.returns c).Start in
    c.check_rows.ensures c.args.p
    ∙ passed_first (list_checks (list s) c.args.room) c.in_ok-check-2.was c.check-2.ensures
    ∙ passed_first (coefficient_checks (list s).coefs then list_checks (list s) c.args.room) c.in_ok-check.was c.check.ensures
    ∙ write_stages (list s) c.args.room
