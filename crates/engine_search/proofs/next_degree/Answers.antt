-- `next_degree` meets its contract. Assumes nothing.
use Rattle.std.proofs.Common.{refl, Some, None}
use Rattle.engine_search.specs.Firsts.{least_all}
use Rattle.engine_search.specs.Places.{degree_of, value_of}
use Rattle.engine_search.proofs.next_degree.Goals as goal

pub returns-in-Some : goal.returns-in-Some
returns-in-Some c =
    least_all c.args.d c.args.m (degree_of c.args.sizes.now) c.args.n (value_of c.args.values.now) (degree_of c.args.degrees.now) (Some c.in-Some.size)
    c.least_pair-pairs.result c.lesser.result (rw c.in-Some.is at c.least_size.ensures) c.least_pair-pairs.ensures c.lesser.ensures

pub returns-in-None : goal.returns-in-None
returns-in-None c =
    least_all c.args.d c.args.m (degree_of c.args.sizes.now) c.args.n (value_of c.args.values.now) (degree_of c.args.degrees.now) None
    c.least_pair-pairs.result c.least_pair-pairs.result (rw c.in-None.is at c.least_size.ensures) c.least_pair-pairs.ensures refl
