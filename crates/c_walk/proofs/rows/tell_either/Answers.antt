-- `tell_either` meets its contract. Assumes nothing.
use mathlib.Core.Path.{◌∙◌, sym}
use Rattle.c_walk.specs.RowLaws.{either_refused, either_shown}
use Rattle.c_walk.proofs.rows.tell_either.Goals as goal

pub returns-then-has_two_lists : goal.returns-then-has_two_lists
returns-then-has_two_lists c =
    c.tell_part.ensures
    ∙ either_shown _ _ _ _ _ _ _ (sym c.if-has_two_lists.true ∙ c.has_two_lists.ensures)
    (rw (c.count_at.ensures, c.which_at.ensures) at c.row_of_either.ensures)

pub returns : goal.returns
returns c = either_refused _ _ _ _ _ _ _ (sym c.if-has_two_lists.false ∙ c.has_two_lists.ensures)
