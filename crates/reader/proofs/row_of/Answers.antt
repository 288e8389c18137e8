-- `reader::row_of` meets its contract. A row that is shown lies in the table (`RowIn`), so no product and no sum wraps. Assumes nothing.
use native.Mathlib.Omega.{arith}
use Rattle.reader.specs.Reading.{shown_in, part_shown, part_hidden}
use Rattle.reader.proofs.row_of.Goals as goal

pub overflow_sub-a : goal.overflow_sub-a
overflow_sub-a c = (shown_in _ _ _ _ c.shows_row.ensures c.if-shows_row.true).counted

pub overflow_mul-a : goal.overflow_mul-a
overflow_mul-a c = omega (arith, shown_in _ _ _ _ c.shows_row.ensures c.if-shows_row.true)

pub overflow_add-e : goal.overflow_add-e
overflow_add-e c = omega (arith, shown_in _ _ _ _ c.shows_row.ensures c.if-shows_row.true)

pub offset_bounds-list-a : goal.offset_bounds-list-a
offset_bounds-list-a c = omega (arith, shown_in _ _ _ _ c.shows_row.ensures c.if-shows_row.true)

pub slice_bounds-result-end : goal.slice_bounds-result-end
slice_bounds-result-end c = (shown_in _ _ _ _ c.shows_row.ensures c.if-shows_row.true).inside

pub returns-then-shows_row : goal.returns-then-shows_row
returns-then-shows_row c = part_shown _ _ _ _ c.shows_row.ensures c.if-shows_row.true

pub returns : goal.returns
returns c = part_hidden _ _ _ _ c.shows_row.ensures c.if-shows_row.false
