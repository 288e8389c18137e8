-- `resume` meets its contract: what the continuing call by value answered and left is told on. Assumes nothing.
use Rattle.c_record.specs.CodeLaws.{answer_fits}
use Rattle.c_desk.specs.CodeLaws.{resume_fits}
use Rattle.c_record.specs.WordLaws.{call_told}
use Rattle.c_desk.specs.Words.{desk_resume_words}
use Rattle.c_desk.proofs.resume.Goals as goal

pub tell-requires : goal.tell-requires
tell-requires c =
    answer_fits c.resume-o.ensures (resume_fits _ _ _)

pub returns : goal.returns
unfolding desk_resume_words
returns c =
    let e = rw c.read-r.ensures at c.resume-o.ensures in
    call_told _ e c.tell.ensures.value c.tell.ensures.run_after
