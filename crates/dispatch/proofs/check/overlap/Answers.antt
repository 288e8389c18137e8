-- `dispatch::check::overlap` meets its contract. Assumes nothing.
use Rattle.std.proofs.Common.{arith}
use Rattle.std.proofs.lemmas.Grind.{common_steps}
use Rattle.dispatch_spec.specs.Parts.{overlap}
use Rattle.dispatch.proofs.check.overlap.Goals as goal

pub returns-then-b-a_end : goal.returns-then-b-a_end
unfolding overlap
returns-then-b-a_end c = grind (arith, common_steps)

pub returns-else-b-a_end : goal.returns-else-b-a_end
unfolding overlap
returns-else-b-a_end c = grind (arith, common_steps)
