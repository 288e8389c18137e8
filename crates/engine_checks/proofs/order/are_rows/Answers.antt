-- `order::are_rows` meets its contract: the two parts of each row, asked one after the other of all. Assumes nothing.
use Rattle.std.proofs.Common.{refl, sym, ◌∙◌}
use Rattle.engine_checks.specs.Order.{both_parts, tested_small}
use Rattle.engine_checks.proofs.order.are_rows.Goals as goal

pub none_zero-requires : goal.none_zero-requires
none_zero-requires c = tested_small c.args.q c.args.m c.args.table.now (sym c.small_rows.ensures ∙ c.if-small_rows.true) c.requires.0 c.requires.1

pub returns-then-small_rows : goal.returns-then-small_rows
returns-then-small_rows c = rw (← both_parts, sym c.small_rows.ensures ∙ c.if-small_rows.true) c.none_zero.ensures

pub returns-else-small_rows : goal.returns-else-small_rows
returns-else-small_rows c = rw (← both_parts, ← c.small_rows.ensures, c.if-small_rows.false) refl
