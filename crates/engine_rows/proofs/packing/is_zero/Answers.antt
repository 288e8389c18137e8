-- `packing::is_zero` meets its contract. Assumes nothing.
use Rattle.engine_rows.specs.Keeping.{zero_test}
use Rattle.engine_rows.proofs.packing.is_zero.Goals as goal

pub returns : goal.returns
returns c = zero_test c.args.x c.ranges.x
