-- `record_order::capped_fits` meets its contract: the room decides, else the first components do. Assumes nothing.
use mathlib.Core.Bool.{false}
use mathlib.Core.Path.{◌≡◌}
use lib.Dec.{leb}
use borrow.Author.Tests.{le-leb, lt-leb}
use Rattle.definitions.specs.Tables.{capacity}
use Rattle.record_order.specs.Order.{capped_fits}
use Rattle.record_order.proofs.capped_fits.Goals as goal

pub returns-then-second-width : goal.returns-then-second-width
unfolding capped_fits
returns-then-second-width c =
    let a = c.args in
    let e : leb a.r.found2.0 (capacity a.width a.second.now) ≡ false = lt-leb _ _ c.if-second-width.true in
    rw e

pub returns : goal.returns
unfolding capped_fits
returns c = rw (le-leb _ _ c.if-second-width.false) c.firsts_fit.ensures
