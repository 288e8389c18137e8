use Rattle.std.proofs.Common.{rules, refl}
use borrow.Author.Tests.{tests}
use Rattle.chains.proofs.ChainLaws.{all_in_range}
use Rattle.engine_checks.specs.Taking.{units_or_lack}
use Rattle.engine_checks.proofs.taking.units_or_lack.Goals as goal

pub returns : goal.returns
unfolding units_or_lack
returns c = all_in_range c.all.ensures.ran refl (λ x b q k. search (rules, tests))
