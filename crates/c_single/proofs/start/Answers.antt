-- `start` meets its contract: what the start by value answered and left is told on, or what the continuing call told. Assumes nothing.
use Rattle.c_record.specs.CodeLaws.{answer_fits}
use Rattle.c_single.specs.SingleFileLaws.{single_start_fits}
use Rattle.c_single.specs.SingleFile.{single_start_words}
use Rattle.c_record.specs.WordLaws.{start_told, told_misfit}
use Rattle.c_record.specs.Words.{resume_words, told}
use Rattle.c_single.proofs.start.Goals as goal

pub tell-requires : goal.tell-requires
tell-requires c =
    answer_fits c.started-o.ensures (single_start_fits _ _)

pub returns-then-run-eq7 : goal.returns-then-run-eq7
unfolding single_start_words
returns-then-run-eq7 c =
    start_told _ (rw c.read-r.ensures at c.started-o.ensures) c.if-run-eq7.true c.tell.ensures.value c.tell.ensures.run_after _

pub returns : goal.returns
unfolding single_start_words resume_words
returns c =
    told_misfit _ _ _ (told _) c.misfit.ensures c.if-run-eq7.false
