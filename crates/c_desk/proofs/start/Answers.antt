-- `start` meets its contract: what the start by value answered and left is told on, or what a continuing call is told. Assumes nothing.
use Rattle.c_record.specs.WordLaws.{start_told, told_misfit}
use Rattle.c_record.specs.Words.{told}
use Rattle.c_record.specs.CodeLaws.{answer_fits}
use Rattle.c_desk.specs.CodeLaws.{begin_fits}
use Rattle.c_desk.specs.Words.{desk_resume_words, desk_start_words}
use Rattle.c_desk.proofs.start.Goals as goal

pub tell-requires : goal.tell-requires
tell-requires c = answer_fits c.start-o.ensures (begin_fits _ _)

pub returns-then-run-eq7 : goal.returns-then-run-eq7
unfolding desk_start_words
returns-then-run-eq7 c =
    let e = rw c.read-r.ensures at c.start-o.ensures in
    start_told _ e c.if-run-eq7.true c.tell.ensures.value c.tell.ensures.run_after _

pub returns : goal.returns
unfolding desk_start_words desk_resume_words
returns c =
    told_misfit _ _ _ (told _) c.resume.ensures c.if-run-eq7.false
