-- `dispatch::check::parts_apart` meets its contract. Assumes nothing.
use mathlib.Core.Path.{sym, ◌∙◌}
use Rattle.dispatch.specs.Clear.{within_says, apart_rest, apart_not}
use borrow.Author.Rules.{rules}
use Rattle.dispatch.proofs.check.parts_apart.Goals as goal

pub none_overlap-requires : goal.none_overlap-requires
none_overlap-requires c = (search rules, within_says _ _ _ (sym c.all_fit.ensures ∙ c.if-all_fit.true))

pub returns-then-all_fit : goal.returns-then-all_fit
returns-then-all_fit c =
    c.none_overlap.ensures ∙ apart_rest _ _ _ (sym c.all_fit.ensures ∙ c.if-all_fit.true)

pub returns-else-all_fit : goal.returns-else-all_fit
returns-else-all_fit c = c.if-all_fit.false ∙ apart_not _ _ _ (sym c.all_fit.ensures ∙ c.if-all_fit.false)
