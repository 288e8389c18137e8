-- `lowest` meets its contract. Assumes nothing.
use Rattle.std.proofs.Common.{rules, refl}
use borrow.Author.Tests.{tests}
use Rattle.single_spec.specs.Graph.{lowest}
use Rattle.single_order.proofs.RangeLaws.{found_in_range}
use Rattle.single_order.proofs.lowest.Goals as goal

pub returns : goal.returns
unfolding lowest
returns c = found_in_range _ c.find.ensures.ran refl (λ x b q k. search (rules, tests))
