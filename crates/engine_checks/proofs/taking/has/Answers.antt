use Rattle.std.proofs.Common.{rules, refl}
use borrow.Author.Tests.{tests}
use Rattle.chains.proofs.ChainLaws.{any_in_range}
use Rattle.engine_checks.specs.Taking.{has_unknown}
use Rattle.engine_checks.proofs.taking.has.Goals as goal

pub returns : goal.returns
unfolding has_unknown
returns c = any_in_range c.any.ensures.ran refl (λ x b q k. search (rules, tests))
