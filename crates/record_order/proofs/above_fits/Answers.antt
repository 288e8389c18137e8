-- `record_order::above_fits` meets its contract: the room decides, else the rows do. Assumes nothing.
use borrow.Author.Tests.{le-leb, lt-leb}
use Rattle.record_order.specs.Order.{above_fits}
use Rattle.record_order.proofs.above_fits.Goals as goal

pub returns-then-second-q : goal.returns-then-second-q
unfolding above_fits
returns-then-second-q c = rw (lt-leb _ _ c.if-second-q.true)

pub returns : goal.returns
unfolding above_fits
returns c = rw (le-leb _ _ c.if-second-q.false) c.rows_above.ensures
