-- `lines::measure` meets its contract.  Assumes nothing.
use Rattle.single_listing.proofs.lines.measure.Goals as goal

pub returns : goal.returns
returns c = c.make.ensures.result
