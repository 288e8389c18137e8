-- `resume` meets its contract: what the continuing call by value answered and left is told on. Assumes nothing.
use Rattle.c_record.specs.CodeLaws.{answer_fits}
use Rattle.c_record.specs.WordLaws.{call_told}
use Rattle.c_seat.specs.SeatWordLaws.{seat_resume_fits}
use Rattle.c_seat.specs.SeatWords.{seat_resume_words}
use Rattle.c_seat.proofs.resume.Goals as goal

pub tell-requires : goal.tell-requires
tell-requires c =
    answer_fits c.resumed-o.ensures (seat_resume_fits _ _ _ _ _)

pub returns : goal.returns
unfolding seat_resume_words
returns c =
    call_told _ (rw c.read-r.ensures at c.resumed-o.ensures) c.tell.ensures.value c.tell.ensures.run_after
