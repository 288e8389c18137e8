-- `dispatch::results::kept` meets its contract. Assumes nothing.
use borrow.Author.Rules.{rules}
use Rattle.dispatch.specs.Filling.{filled_by_map}
use Rattle.dispatch.specs.Form.{kept_of, no_record}
use Rattle.dispatch.proofs.results.kept.Goals as goal

pub returns : goal.returns
returns c = filled_by_map kept_of no_record c.map.ensures.items (λ p x y q k. search rules)
