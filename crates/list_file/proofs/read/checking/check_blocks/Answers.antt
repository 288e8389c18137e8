-- `list_file::read::checking::check_blocks` meets its contract: the length, block 0, and what comes after it. Assumes nothing.
use Rattle.std.proofs.Common.{◌∙◌}
use Rattle.calls.proofs.CallLaws.{handed_on}
use Rattle.list_spec.proofs.RuleLaws.{header_in}
use Rattle.list_file.specs.WordCheckLaws.{refused_first, passed_first, passes}
use Rattle.list_file.specs.ReadLaws.{later_checks, too_short, file_stages}
use Rattle.list_file.proofs.read.checking.check_blocks.Goals as goal

pub returns-then-file-lt512 : goal.returns-then-file-lt512
returns-then-file-lt512 c = too_short _ c.if-file-lt512.true

pub check_later-requires : goal.check_later-requires
check_later-requires c =
    record {
      long = c.if-file-lt512.false;
      range = header_in _ (passes (rw c.header_in_range.ensures at c.check_block.ensures) c.in_ok-check_block.was);
    }

pub returns-in_err-check_block : goal.returns-in_err-check_block
returns-in_err-check_block c =
    rw (handed_on c.from_residual.ensures)
    (refused_first (later_checks _) c.in_err-check_block.was (rw c.header_in_range.ensures at c.check_block.ensures)
    ∙ file_stages _ c.if-file-lt512.false)

pub returns : goal.returns
returns c =
    c.check_later.ensures
    ∙ passed_first (later_checks _) c.in_ok-check_block.was (rw c.header_in_range.ensures at c.check_block.ensures)
    ∙ file_stages _ c.if-file-lt512.false
