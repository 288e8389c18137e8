-- `rows::is_large` meets its contract: the tuple is a row from its first place on. Assumes nothing.
use mathlib.Core.Bool.{not}
use mathlib.Core.Path.{◌∙◌, ap}
use Rattle.table_rows.proofs.Limits.{large_whole}
use Rattle.desk_rows.proofs.rows.is_large.Goals as goal

pub returns : goal.returns
returns c = let a = c.args in ap not c.small_at.ensures ∙ large_whole a.q a.t.now
