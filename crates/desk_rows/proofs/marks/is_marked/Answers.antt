-- `marks::is_marked` meets its contract: bit j. Assumes nothing.
use Rattle.laws.proofs.MarkLaws.{mark_test}
use Rattle.desk_rows.proofs.marks.is_marked.Goals as goal

pub returns : goal.returns
returns c = mark_test c.args.marks c.args.j
