-- `resume` meets its contract: what the continuing call by value answered and left is told on. Assumes nothing.
use Rattle.c_engine.specs.CodeLaws.{resume_fits}
use Rattle.c_engine.specs.WordLaws.{answer_fits, call_told}
use Rattle.c_engine.specs.Words.{resume_words}
use Rattle.c_engine.proofs.resume.Goals as goal

pub tell-requires : goal.tell-requires
tell-requires c =
    answer_fits c.resume-o.result c.resume-o.ensures.outcome (resume_fits _ _ _ _ _ _)

pub returns : goal.returns
unfolding resume_words
returns c =
    let l = rw c.read-r.ensures at c.resume-o.ensures in
    record { run_after = call_told _ c.resume-o.result l.outcome c.tell.ensures.value c.tell.ensures.run_after; resume_left = (c.resume-o.result, l) }
