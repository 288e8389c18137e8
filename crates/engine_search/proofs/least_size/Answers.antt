-- `least_size` meets its contract: the least of the rows passed. Assumes nothing.
use Rattle.engine_search.specs.Firsts.{least_more, least_start}
use Rattle.engine_search.specs.Places.{degree_of}
use Rattle.engine_search.proofs.least_size.Goals as goal

pub loop-i-init : goal.loop-i-init
loop-i-init c = least_start _ _

pub loop-i-preserved : goal.loop-i-preserved
loop-i-preserved c =
    least_more c.args.d c.loop-i.i (degree_of c.args.sizes.now) c.loop-i.best c.lesser-best.result c.wide.result c.loop-i.invariant c.wide.ensures
    c.lesser-best.ensures
