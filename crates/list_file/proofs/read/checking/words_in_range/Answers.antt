-- `list_file::read::checking::words_in_range` meets its contract. Every word passed is in range. Assumes nothing.
use Rattle.std.proofs.Common.{sym, refl, ◌∙◌, le_antisymm}
use Rattle.linear.proofs.LoopLaws.{all_next, all_fails}
use Rattle.linear.specs.Tests.{all_to}
use Rattle.list_spec.specs.Reading.{block_in_range}
use Rattle.list_file.proofs.read.checking.words_in_range.Goals as goal

pub loop-j-init : goal.loop-j-init
unfolding all_to
loop-j-init c = refl

pub returns-then-not-word_in_range : goal.returns-then-not-word_in_range
unfolding block_in_range
returns-then-not-word_in_range c =
    sym (all_fails _ _ _ c.loop-j-test.true (sym (rw c.word_at-w.ensures at c.word_in_range.ensures) ∙ c.if-not-word_in_range.true))

pub loop-j-preserved : goal.loop-j-preserved
loop-j-preserved c =
    all_next _ _ c.loop-j.invariant (sym (rw c.word_at-w.ensures at c.word_in_range.ensures) ∙ c.if-not-word_in_range.false)

pub returns : goal.returns
unfolding block_in_range
returns c = cc (le_antisymm c.loop-j.auto.j-end c.loop-j-test.false)
