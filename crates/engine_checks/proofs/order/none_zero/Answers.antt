use Rattle.std.proofs.Common.{rules, refl}
use borrow.Author.Tests.{tests}
use Rattle.chains.proofs.ChainLaws.{all_in_range}
use Rattle.engine_checks.specs.Order.{none_zero}
use Rattle.engine_checks.proofs.order.none_zero.Goals as goal

pub returns : goal.returns
unfolding none_zero
returns c = all_in_range c.all.ensures.ran refl (λ x b q k. search (rules, tests))
