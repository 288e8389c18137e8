-- `dispatch::check::none_overlap` meets its contract: all over the runs is the test over them. Assumes nothing.
use Rattle.std.proofs.Common.{rules, refl}
use borrow.Author.Tests.{tests}
use Rattle.chains.proofs.ChainLaws.{all_in_range}
use Rattle.dispatch.proofs.check.none_overlap.Goals as goal

pub returns : goal.returns
returns c = all_in_range c.all.ensures.ran refl (λ x b q k. search (rules, tests))
