-- `resume_from` meets its contract: what the continuing call by value answered and left is told on. Assumes nothing.
use Rattle.c_record.specs.CodeLaws.{answer_fits, resume_from_fits}
use Rattle.c_record.specs.WordLaws.{both_told}
use Rattle.c_walk.specs.Lower.{resume_bounded}
use Rattle.c_walk.proofs.lower.resume_from.Goals as goal

pub tell-requires : goal.tell-requires
tell-requires c =
    answer_fits c.resumed_from-o.ensures (resume_from_fits _ _ _ _)

pub returns : goal.returns
unfolding resume_bounded
returns c =
    both_told _ (rw c.read-r.ensures at c.resumed_from-o.ensures)
    c.tell.ensures.value
    c.tell.ensures.run_after
