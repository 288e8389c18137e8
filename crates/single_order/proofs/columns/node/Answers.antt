-- `node` meets its contract. Assumes nothing.
use Rattle.std.proofs.Common.{rules, refl}
use borrow.Author.Tests.{tests}
use Rattle.single_spec.specs.Profile.{node_of}
use Rattle.single_order.proofs.RangeLaws.{found_in_range}
use Rattle.single_order.proofs.columns.node.Goals as goal

pub returns : goal.returns
unfolding node_of
returns c = found_in_range _ c.find.ensures.ran refl (λ x b q k. search (rules, tests))
