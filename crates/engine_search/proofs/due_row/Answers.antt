-- `due_row` meets its contract: what `find` names is the first row. Assumes nothing.
use Rattle.std.proofs.Common.{refl, rules, tests, eqb}
use Rattle.engine_search.proofs.Finds.{find_in_range}
use Rattle.engine_search.specs.Firsts.{size_named}
use Rattle.engine_search.specs.Places.{degree_of}
use Rattle.engine_search.proofs.due_row.Goals as goal

pub returns : goal.returns
returns c =
    size_named c.args.sizes.now c.args.m c.args.from c.args.d c.find.result
    (find_in_range _ _ c.args.from c.args.m (λ i. eqb (degree_of c.args.sizes.now i) c.args.d) c.find.ensures.ran refl (λ x b q k. search (rules, tests)))
