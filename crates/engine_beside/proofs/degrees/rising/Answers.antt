-- `degrees::rising` meets its contract. Assumes nothing.
use Rattle.std.proofs.Common.{rules, tests, refl}
use Rattle.chains.proofs.ChainLaws.{all_in_range}
use Rattle.engine_beside.specs.Rising.{is_rising}
use Rattle.engine_beside.proofs.degrees.rising.Goals as goal

pub returns : goal.returns
unfolding is_rising
returns c = all_in_range c.all.ensures.ran refl (λ x b q k. search (rules, tests))
