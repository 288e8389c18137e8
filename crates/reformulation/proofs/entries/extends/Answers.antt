-- `entries::extends` meets its contract. Assumes nothing.
use Rattle.std.proofs.Common.{rules, refl}
use borrow.Author.Tests.{tests}
use Rattle.chains.proofs.ChainLaws.{all_in_range}
use Rattle.reformulation_spec.specs.Reformulation as paper
use Rattle.reformulation.proofs.entries.extends.Goals as goal

pub returns : goal.returns
unfolding paper.extends
returns c = all_in_range c.all.ensures.ran refl (λ x b q k. search (rules, tests))
