-- `dispatch::round::next_after` meets its contract. Assumes nothing.
use mathlib.Core.Path.{sym, ◌∙◌}
use borrow.Author.Rules.{rules}
use Rattle.dispatch.specs.Asking.{asking_begins, asking_found, asking_more, asking_ends}
use Rattle.dispatch.proofs.round.next_after.Goals as goal

pub loop-k-init : goal.loop-k-init
loop-k-init c = asking_begins _ _ _ (search rules) (search rules) (search rules)

pub returns-then-stays-clause-found : goal.returns-then-stays-clause-found
returns-then-stays-clause-found c =
    asking_found c.loop-k.invariant c.loop-k-test.true c.further-i.ensures.0 (sym c.stays.ensures ∙ c.if-stays.true)

pub loop-k-preserved : goal.loop-k-preserved
loop-k-preserved c =
    asking_more c.loop-k.invariant c.loop-k-test.true c.further-i.ensures.0 (sym c.stays.ensures ∙ c.if-stays.false)

pub returns-clause-found : goal.returns-clause-found
returns-clause-found c = asking_ends c.loop-k.invariant c.loop-k-test.false
