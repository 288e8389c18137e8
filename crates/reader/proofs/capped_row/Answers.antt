-- `reader::capped_row` meets its contract: above 15 unknowns the part is empty, else it is what `row_of` shows. Assumes nothing.
use mathlib.Core.Path.{◌∙◌}
use Rattle.reader.specs.Reading.{capped_narrow, capped_wide}
use Rattle.reader.proofs.capped_row.Goals as goal

pub returns-then-q-gt15 : goal.returns-then-q-gt15
returns-then-q-gt15 c = let a = c.args in capped_wide a.q a.list.now a.found.0 a.n c.if-q-gt15.true

pub returns : goal.returns
returns c = let a = c.args in c.row_of.ensures ∙ capped_narrow a.q a.list.now a.found.0 a.n c.if-q-gt15.false
