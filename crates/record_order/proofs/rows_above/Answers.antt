-- `record_order::rows_above` meets its contract. Assumes nothing.
use Rattle.std.proofs.Common.{rules, refl}
use borrow.Author.Tests.{tests}
use Rattle.chains.proofs.ChainLaws.{all_in_range}
use Rattle.record_order.proofs.rows_above.Goals as goal

pub returns : goal.returns
returns c = all_in_range c.all.ensures.ran refl (λ x b q k. search (rules, tests))
