-- `order::row_in_order` meets its contract: the components decide, else the marks do. Assumes nothing.
use mathlib.Core.Path.{sym, ◌∙◌}
use Rattle.desk_spec.specs.Desks.{desk_row_in_order}
use Rattle.desk_checks.proofs.order.row_in_order.Goals as goal

pub returns-then-small_at : goal.returns-then-small_at
unfolding desk_row_in_order
returns-then-small_at c = rw (sym c.small_at.ensures ∙ c.if-small_at.true) (rw c.join-marks.ensures at c.in_order.ensures)

pub returns-else-small_at : goal.returns-else-small_at
unfolding desk_row_in_order
returns-else-small_at c = rw (sym c.small_at.ensures ∙ c.if-small_at.false) c.if-small_at.false
