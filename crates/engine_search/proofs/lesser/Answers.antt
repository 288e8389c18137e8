-- `lesser` meets its contract. Assumes nothing.
use Rattle.std.proofs.Common.{rules}
use Rattle.engine_search.specs.Firsts.{least_comes, least_stays}
use Rattle.engine_search.proofs.lesser.Goals as goal

pub returns-then-x-d : goal.returns-then-x-d
returns-then-x-d c = least_stays c.args.d c.args.x c.args.known c.requires c.if-x-d.true

pub returns : goal.returns
returns c = least_comes c.args.d c.args.x c.args.known c.map_or.result c.requires c.if-x-d.false (search rules)
