-- `tell` meets its contract. Assumes nothing.
use mathlib.Core.Path.{◌∙◌, ap, sym}
use Rattle.calls.specs.Paper.{check_of}
use Rattle.c_walk.specs.RowLaws.{told_refused, told_shown}
use Rattle.c_walk.proofs.rows.tell.Goals as goal

pub returns-in-Err : goal.returns-in-Err
returns-in-Err c =
    rw c.number_of.ensures (told_refused _ _ _ _ _ (sym (ap check_of c.in-Err.is) ∙ c.reader_answer.ensures))

pub returns-in-Ok : goal.returns-in-Ok
returns-in-Ok c =
    c.tell_part.ensures ∙ told_shown _ _ _ _ _ (sym (ap check_of c.in-Ok.is) ∙ c.reader_answer.ensures) c.row_of.ensures
