-- `start` meets its contract: what the start by value answered and left is told on, or what the continuing call told. Assumes nothing.
use Rattle.definitions.specs.System.{most_component}
use Rattle.c_record.specs.CodeLaws.{answer_fits, start_fits}
use Rattle.c_record.specs.WordLaws.{start_told, told_misfit}
use Rattle.c_record.specs.Words.{resume_words, start_words, told}
use Rattle.c_walk.proofs.start.Goals as goal

pub tell-requires : goal.tell-requires
tell-requires c =
    answer_fits (c.started-o.ensures most_component) (start_fits _ _)

pub returns-then-run-eq7 : goal.returns-then-run-eq7
unfolding start_words
returns-then-run-eq7 c =
    start_told _ (rw c.read-r.ensures at (c.started-o.ensures most_component)) c.if-run-eq7.true c.tell.ensures.value c.tell.ensures.run_after _

pub returns : goal.returns
unfolding start_words resume_words
returns c =
    told_misfit _ _ _ (told _) c.misfit.ensures c.if-run-eq7.false
