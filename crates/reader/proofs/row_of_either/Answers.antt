-- `reader::row_of_either` meets its contract: the part is one of the table that was asked. Assumes nothing.
use mathlib.Core.Path.{◌∙◌, sym, ap}
use Rattle.definitions.specs.Reader.{at_zero, at_one, row_of_either}
use Rattle.reader.specs.Reading.{either_part, which_of}
use Rattle.reader.proofs.row_of_either.Goals as goal

pub returns-in-Zero : goal.returns-in-Zero
returns-in-Zero c =
    let a = c.args in
    c.capped_row.ensures
    ∙ either_part at_zero a.q a.list.now a.second.now a.found.0 a.n
    ∙ sym (ap (λ w. row_of_either (which_of w) a.q a.list.now a.second.now a.found.0 a.n) c.in-Zero.is)

pub returns-in-One : goal.returns-in-One
returns-in-One c =
    let a = c.args in
    c.capped_row-in-One.ensures
    ∙ either_part at_one a.q a.list.now a.second.now a.found.0 a.n
    ∙ sym (ap (λ w. row_of_either (which_of w) a.q a.list.now a.second.now a.found.0 a.n) c.in-One.is)
