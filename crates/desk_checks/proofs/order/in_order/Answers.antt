-- `order::in_order` meets its contract: a test that fails decides. Assumes nothing.
use Rattle.std.proofs.Common.{arith}
use Rattle.std.proofs.lemmas.Grind.{common_steps}
use Rattle.desk_spec.specs.Desks.{desk_in_order}
use Rattle.desk_checks.proofs.order.in_order.Goals as goal

pub returns-then-r-le-DEEPEST_LIMIT : goal.returns-then-r-le-DEEPEST_LIMIT
unfolding desk_in_order
returns-then-r-le-DEEPEST_LIMIT c = grind (arith, common_steps)

pub returns-else-r-le-DEEPEST_LIMIT : goal.returns-else-r-le-DEEPEST_LIMIT
unfolding desk_in_order
returns-else-r-le-DEEPEST_LIMIT c = grind (arith, common_steps)
