-- `rows::small_sum` meets its contract. Assumes nothing.
use Rattle.std.proofs.Common.{refl, rules, tests}
use Rattle.chains.proofs.ChainLaws.{all_in_range}
use Rattle.engine_spec.specs.Reduction.{is_small}
use Rattle.engine_rows.proofs.rows.small_sum.Goals as goal

pub returns : goal.returns
unfolding is_small
returns c = all_in_range c.all.ensures.ran refl (λ x b q k. search (rules, tests))
