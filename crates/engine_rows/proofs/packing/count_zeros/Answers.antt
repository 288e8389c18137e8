-- `packing::count_zeros` meets its contract. Assumes nothing.
use Rattle.std.proofs.Common.{rules, tests}
use Rattle.engine_rows.specs.Keeping.{zero_value}
use Rattle.engine_rows.proofs.packing.count_zeros.Goals as goal

pub returns : goal.returns
returns c = c.count_where.ensures (zero_value c.args.values.now) (λ i b l p. search (rules, tests))
