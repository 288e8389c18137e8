-- `read::records` meets its contract. Assumes nothing.
use borrow.Author.Rules.{rules}
use Rattle.dispatch.specs.Filling.{filled_by_fn}
use Rattle.c_dispatch.specs.Words.{record_in}
use Rattle.c_dispatch.proofs.read.records.Goals as goal

pub returns : goal.returns
unfolding record_in
returns c = filled_by_fn c.from_fn.ensures.items (λ x y q k. search rules)
