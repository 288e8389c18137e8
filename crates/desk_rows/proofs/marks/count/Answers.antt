-- `marks::count` meets its contract: the machine's count is the count over 64 places. Assumes nothing.
use lib.Count.{ones-le}
use native.Mathlib.Omega.{arith}
use Rattle.record_order.specs.Order.{ones_marks}
use Rattle.desk_rows.proofs.marks.count.Goals as goal

pub overflow_cast-result : goal.overflow_cast-result
overflow_cast-result c = omega (arith, ones-le 64 c.args.marks c.ranges.marks.fits)

pub returns : goal.returns
returns c = ones_marks 64 c.args.marks c.ranges.marks.fits
