use Rattle.std.proofs.Common.{rules, refl}
use borrow.Author.Tests.{tests}
use Rattle.chains.proofs.ChainLaws.{all_in_range}
use Rattle.engine_checks.specs.Operating.{combines_small}
use Rattle.engine_checks.proofs.operations.combines_small.Goals as goal

pub returns : goal.returns
unfolding combines_small
returns c = all_in_range c.all.ensures.ran refl (λ x b q k. search (rules, tests))
