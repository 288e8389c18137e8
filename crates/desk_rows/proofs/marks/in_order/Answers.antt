-- `marks::in_order` meets its contract: marks of the first n generators are counted over 64 places. Assumes nothing.
use lib.Dec.{ltb→lt}
use mathlib.Core.Path.{sym, ◌∙◌}
use Rattle.desk_rows.specs.Marks.{count_fit}
use Rattle.desk_rows.proofs.marks.in_order.Goals as goal

pub returns-then-fit : goal.returns-then-fit
returns-then-fit c =
    let fits = sym c.fit.ensures ∙ c.if-fit.true in
    rw (fits, count_fit c.args.marks c.args.n c.ranges.marks.fits (ltb→lt _ _ (rw fits tt)), c.count.ensures)
