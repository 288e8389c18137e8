-- `values::value_at` meets its contract: it is the value of a row of any walk, within the engine's limits. Assumes nothing.
use Rattle.engine_beside.specs.Small.{equation_within, row_within}
use Rattle.engine_beside.proofs.values.value_at.Goals as goal

pub value_at-requires : goal.value_at-requires
value_at-requires c = (equation_within c.requires.0, row_within c.requires.1)
