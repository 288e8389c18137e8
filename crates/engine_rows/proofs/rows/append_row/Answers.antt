-- `rows::append_row` meets its contract. Assumes nothing.
use Rattle.std.proofs.Common.{rules}
use Rattle.engine_spec.specs.Beside.{row_at}
use Rattle.engine_rows.proofs.rows.append_row.Goals as goal

pub returns : goal.returns
returns c = c.write_row.ensures (row_at c.args.source.now c.args.from) (λ j y l p. search rules)
