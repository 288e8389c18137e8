-- `ranges::wide_image` meets its contract: any over the places is the test over places. Assumes nothing.
use Rattle.std.proofs.Common.{rules, refl}
use borrow.Author.Tests.{tests}
use Rattle.chains.proofs.ChainLaws.{any_in_range}
use Rattle.desk_checks.proofs.ranges.wide_image.Goals as goal

pub returns : goal.returns
returns c = any_in_range c.any.ensures.ran refl (λ x b q k. search (rules, tests))
