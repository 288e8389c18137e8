-- `rows::append_filled` meets its contract. Assumes nothing.
use Rattle.std.proofs.Common.{rules}
use Rattle.engine_spec.specs.Beside.{row_at}
use Rattle.engine_spec.specs.Fresh.{put_at}
use Rattle.engine_rows.proofs.rows.append_filled.Goals as goal

pub returns : goal.returns
unfolding put_at
returns c = c.write_row.ensures (put_at c.args.f c.args.x (row_at c.args.source.now c.args.from)) (λ j y l p. search rules)
