-- `marks::fit` meets its contract: 64 bits are within 64 generators. Assumes nothing.
use borrow.Author.Tests.{le-leb}
use mathlib.Core.Path.{◌∙◌}
use Rattle.desk_rows.specs.Marks.{fit_all}
use Rattle.desk_rows.proofs.marks.fit.Goals as goal

pub returns-then-n-ge64 : goal.returns-then-n-ge64
returns-then-n-ge64 c = le-leb _ _ c.if-n-ge64.true ∙ fit_all c.args.marks c.args.n c.ranges.marks.fits c.if-n-ge64.true
