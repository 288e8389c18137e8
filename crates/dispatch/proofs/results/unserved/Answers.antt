-- `dispatch::results::unserved` meets its contract. Assumes nothing.
use borrow.Author.Rules.{rules}
use Rattle.dispatch.specs.Filling.{filled_by_map}
use Rattle.dispatch.specs.Form.{unserved_of, no_record}
use Rattle.dispatch.proofs.results.unserved.Goals as goal

pub returns : goal.returns
returns c = filled_by_map unserved_of no_record c.map.ensures.items (λ p x y q k. search rules)
