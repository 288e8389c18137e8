-- `order::small` meets its contract: the table is a row from its first place on. Assumes nothing.
use lib.ListN.{length}
use mathlib.Core.Path.{◌∙◌}
use Rattle.table_rows.proofs.Limits.{small_whole}
use Rattle.desk_checks.proofs.order.small.Goals as goal

pub returns : goal.returns
returns c = let t = c.args.table.now in c.small_at.ensures ∙ small_whole (length t) t
