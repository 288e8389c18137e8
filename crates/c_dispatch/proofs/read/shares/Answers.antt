-- `read::shares` meets its contract. Assumes nothing.
use borrow.Author.Rules.{rules}
use Rattle.dispatch.specs.Filling.{filled_by_fn}
use Rattle.c_dispatch.specs.Words.{share_in}
use Rattle.c_dispatch.proofs.read.shares.Goals as goal

pub returns : goal.returns
unfolding share_in
returns c = filled_by_fn c.from_fn.ensures.items (λ x y q k. search rules)
