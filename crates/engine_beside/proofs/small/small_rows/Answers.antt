-- `small::small_rows` meets its contract: the rows are asked as one. Assumes nothing.
use mathlib.Core.Path.{◌∙◌}
use Rattle.engine_beside.specs.SmallRows.{small_as_one}
use Rattle.engine_beside.proofs.small.small_rows.Goals as goal

pub returns : goal.returns
returns c = c.small_at.ensures ∙ small_as_one c.args.q c.args.n c.args.table.now
