-- `taking::is_alone` meets its contract. Assumes nothing.
use Rattle.std.proofs.Common.{arith}
use Rattle.std.proofs.lemmas.Grind.{common_steps}
use Rattle.engine_checks.specs.Taking.{alone_parts}
use Rattle.engine_checks.proofs.taking.is_alone.Goals as goal

pub returns-then-has : goal.returns-then-has
returns-then-has c = rw alone_parts (grind (arith, common_steps))

pub returns-else-has : goal.returns-else-has
returns-else-has c = rw alone_parts (grind (arith, common_steps))
