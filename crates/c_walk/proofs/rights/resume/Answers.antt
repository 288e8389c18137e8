-- `resume` meets its contract: what the continuing call by value answered and left is told on. Assumes nothing.
use Rattle.c_record.specs.CodeLaws.{answer_fits, resume_fits}
use Rattle.c_record.specs.WordLaws.{both_told}
use Rattle.c_walk.specs.Capped.{resume_sided}
use Rattle.c_walk.proofs.rights.resume.Goals as goal

pub tell-requires : goal.tell-requires
tell-requires c =
    answer_fits c.resumed_capped-o.ensures (resume_fits _ _ _)

pub returns : goal.returns
unfolding resume_sided
returns c =
    both_told _ (rw c.read-r.ensures at c.resumed_capped-o.ensures)
    c.tell.ensures.value
    c.tell.ensures.run_after
