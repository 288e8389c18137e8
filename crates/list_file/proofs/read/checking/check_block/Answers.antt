-- `list_file::read::checking::check_block` meets its contract: the sum, the number and the range are tested in order. Assumes nothing.
use Rattle.std.proofs.Common.{sym, ◌∙◌}
use Rattle.list_file.specs.ReadLaws.{bad_sum, bad_number, bad_range, block_passed}
use Rattle.list_file.proofs.read.checking.check_block.Goals as goal

pub returns-then-wrapping_sum-ne0 : goal.returns-then-wrapping_sum-ne0
returns-then-wrapping_sum-ne0 c = bad_sum _ _ _ (λ e. c.if-wrapping_sum-ne0.true (c.wrapping_sum.ensures ∙ e))

pub returns-then-word_at-b : goal.returns-then-word_at-b
returns-then-word_at-b c =
    bad_number _ _ _ (sym c.wrapping_sum.ensures ∙ c.if-wrapping_sum-ne0.false)
    (λ e. c.if-word_at-b.true (c.word_at.ensures ∙ e))

pub returns-then-not-ranged : goal.returns-then-not-ranged
returns-then-not-ranged c =
    bad_range _ _ _ (sym c.wrapping_sum.ensures ∙ c.if-wrapping_sum-ne0.false) (sym c.word_at.ensures ∙ c.if-word_at-b.false)
    (c.if-not-ranged.true)

pub returns : goal.returns
returns c =
    block_passed _ _ _ (sym c.wrapping_sum.ensures ∙ c.if-wrapping_sum-ne0.false) (sym c.word_at.ensures ∙ c.if-word_at-b.false)
    (c.if-not-ranged.false)
