-- `ranges::is_wide` meets its contract: their number decides, else any over the generators is the test over them. Assumes nothing.
use Rattle.std.proofs.Common.{rules, refl}
use borrow.Author.Tests.{tests, le-ltb, lt-ltb}
use Rattle.chains.proofs.ChainLaws.{any_in_range}
use Rattle.desk_spec.specs.Desks.{most_generators, wide}
use Rattle.desk_checks.proofs.ranges.is_wide.Goals as goal

pub returns-then-n-gt64 : goal.returns-then-n-gt64
unfolding wide
returns-then-n-gt64 c = rw (lt-ltb most_generators _ c.if-n-gt64.true)

pub returns-else-n-gt64 : goal.returns-else-n-gt64
unfolding wide
returns-else-n-gt64 c = rw (le-ltb most_generators _ c.if-n-gt64.false) (any_in_range c.any.ensures.ran refl (λ x b q k. search (rules, tests)))
