-- `packing::most_value_small` meets its contract. Assumes nothing.
use Rattle.std.proofs.Common.{refl, rules, tests}
use Rattle.chains.proofs.ChainLaws.{all_in_range}
use Rattle.engine_rows.specs.Keeping.{not_large}
use Rattle.engine_rows.proofs.packing.most_value_small.Goals as goal

pub returns : goal.returns
returns c = all_in_range c.all.ensures.ran refl (λ x b q k. search (rules, tests, not_large))
