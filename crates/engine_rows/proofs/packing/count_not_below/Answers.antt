-- `packing::count_not_below` meets its contract. Assumes nothing.
use Rattle.std.proofs.Common.{rules, tests}
use Rattle.engine_rows.specs.Keeping.{not_below_value}
use Rattle.engine_rows.proofs.packing.count_not_below.Goals as goal

pub returns : goal.returns
returns c = c.count_where.ensures (not_below_value c.args.values.now) (λ i b l p. search (rules, tests))
