-- `start_from` meets its contract: what the start by value answered and left is told on, or what the continuing call told. Assumes nothing.
use Rattle.c_record.specs.CodeLaws.{answer_fits, start_from_fits}
use Rattle.c_record.specs.WordLaws.{start_both_told, told_misfit}
use Rattle.c_record.specs.Words.{told_both}
use Rattle.c_walk.specs.Lower.{resume_bounded, start_bounded}
use Rattle.c_walk.proofs.lower.start_from.Goals as goal

pub tell-requires : goal.tell-requires
tell-requires c =
    answer_fits c.started_from-o.ensures (start_from_fits _ _ _)

pub returns-then-run-eq7 : goal.returns-then-run-eq7
unfolding start_bounded
returns-then-run-eq7 c =
    start_both_told _ (rw c.read-r.ensures at c.started_from-o.ensures) c.if-run-eq7.true c.tell.ensures.value c.tell.ensures.run_after _

pub returns : goal.returns
unfolding start_bounded resume_bounded
returns c =
    told_misfit _ _ _ (told_both _) c.resume_from.ensures c.if-run-eq7.false
