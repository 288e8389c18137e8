-- `checks::order::check_from` meets its contract: the bound's length decides, else 6 does, else 7 and 8 do. Assumes nothing.
use mathlib.Core.Path.{◌≡◌, ◌∙◌}
use native.Mathlib.Omega.{arith}
use lib.ListN.{length}
use borrow.Author.Rules.{rules}
use borrow.Author.Tests.{eq-eqb, ne_eqb}
use Rattle.definitions.specs.Input.{limit_of}
use Rattle.calls.specs.Paper.{kind_of, run_of, state_with}
use Rattle.record_order.specs.Order.{lower_after, lower_first, lower_second, lower_fits}
use mathlib.Core.Path.{ap}
use mathlib.Core.Bool.{not}
use Rattle.checks.proofs.order.check_from.Goals as goal
use Rattle.checks.proofs.order.check_from.Goals.{After-lower_in_order}

-- the test, with the limit that counts
tested : (c : After-lower_in_order) → let a = c.args in
    c.lower_in_order.result ≡ lower_fits (kind_of a.r.kind) a.q (limit_of a.limit) a.lower.now a.stack.now a.list.now
    a.second.now (run_of a.r)
tested c = rw c.limit_of-most.ensures at c.lower_in_order.ensures

pub returns-then-lower-q : goal.returns-then-lower-q
returns-then-lower-q c p =
    let a = c.args in
    lower_first a.lower.now p a.q a.limit a.coefs.now (state_with a.stack.now a.list.now a.second.now a.r) _
    (ne_eqb (length a.lower.now) a.q (λ e. omega arith))

pub returns-then-not-lower_in_order : goal.returns-then-not-lower_in_order
returns-then-not-lower_in_order c p =
    let a = c.args in
    lower_second a.lower.now p a.q a.limit a.coefs.now (state_with a.stack.now a.list.now a.second.now a.r) _
    (eq-eqb (length a.lower.now) a.q (search rules)) (tested (goal.at.returns-then-not-lower_in_order c).After-lower_in_order)
    (ap not c.if-not-lower_in_order.true)

pub returns : goal.returns
returns c p =
    let a = c.args in
    c.check_lower.ensures p
    ∙ lower_after a.lower.now p a.q a.limit a.coefs.now (state_with a.stack.now a.list.now a.second.now a.r) _
    (eq-eqb (length a.lower.now) a.q (search rules)) (tested (goal.at.returns c).After-lower_in_order) (ap not c.if-not-lower_in_order.false)
