-- `start` meets its contract: what the start by value answered and left is told on, or what the continuing call told. Assumes nothing.
use Rattle.definitions.specs.System.{most_component}
use Rattle.c_record.specs.CodeLaws.{answer_fits, start_fits}
use Rattle.c_record.specs.WordLaws.{start_both_told, told_misfit}
use Rattle.c_record.specs.Words.{told_both}
use Rattle.c_walk.specs.Capped.{resume_sided, start_sided}
use Rattle.c_walk.proofs.rights.start.Goals as goal

pub tell-requires : goal.tell-requires
tell-requires c =
    answer_fits (c.started_capped-o.ensures most_component) (start_fits _ _)

pub returns-then-run-eq7 : goal.returns-then-run-eq7
unfolding start_sided
returns-then-run-eq7 c =
    start_both_told _ (rw c.read-r.ensures at (c.started_capped-o.ensures most_component)) c.if-run-eq7.true
    c.tell.ensures.value c.tell.ensures.run_after _

pub returns : goal.returns
unfolding start_sided resume_sided
returns c =
    told_misfit _ _ _ (told_both _) c.resume.ensures c.if-run-eq7.false
