use Rattle.std.proofs.Common.{rules, refl}
use borrow.Author.Tests.{tests}
use Rattle.chains.proofs.ChainLaws.{all_in_range}
use Rattle.engine_checks.specs.Taking.{free_in}
use Rattle.engine_checks.proofs.taking.free_in.Goals as goal

pub returns : goal.returns
unfolding free_in
returns c = all_in_range c.all.ensures.ran refl (λ x b q k. search (rules, tests))
