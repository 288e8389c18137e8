-- `dispatch::check::clear` meets its contract: all over the runs is the test over them. Assumes nothing.
use Rattle.std.proofs.Common.{rules, refl}
use borrow.Author.Tests.{tests}
use Rattle.std.proofs.lemmas.Iterator.{serves_from_Range}
use Rattle.chains.proofs.ChainLaws.{all_in_range}
use Rattle.dispatch.proofs.check.clear.Goals as goal

pub returns : goal.returns
returns c = all_in_range c.all.ensures.ran refl (λ x b q k. search (rules, tests))

pub all-requires-clause-callable : goal.all-requires-clause-callable
all-requires-clause-callable c = serves_from_Range (λ x q k. search rules) (λ x low high. let f = c.requires.2.fit x high in search rules)
