-- `list_file::read::checking::check` meets its contract: the file, and then the tables. Assumes nothing.
use Rattle.std.proofs.Common.{◌∙◌}
use Rattle.calls.proofs.CallLaws.{handed_on}
use Rattle.list_spec.proofs.RuleLaws.{file_in}
use Rattle.list_file.specs.WordCheckLaws.{refused_first, passed_first, passes}
use Rattle.list_file.specs.ReadLaws.{table_checks, header_read, read_stages}
use Rattle.list_file.proofs.read.checking.check.Goals as goal

pub check_tables-requires : goal.check_tables-requires
check_tables-requires c = header_read _ (file_in _ (passes c.check_blocks.ensures c.in_ok-check_blocks.was))

pub returns-in_err-check_blocks : goal.returns-in_err-check_blocks
returns-in_err-check_blocks c =
    let a = c.args in
    rw (handed_on c.from_residual.ensures)
    (refused_first (table_checks a.file.now a.coefs a.list) c.in_err-check_blocks.was c.check_blocks.ensures ∙ read_stages _ _ _)

pub returns : goal.returns
returns c =
    let a = c.args in
    c.check_tables.ensures
    ∙ passed_first (table_checks a.file.now a.coefs a.list) c.in_ok-check_blocks.was c.check_blocks.ensures
    ∙ read_stages _ _ _
