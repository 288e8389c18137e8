-- `checks::order::check` meets its contract: 6 decides, else 7 does. Assumes nothing.
use Prim.Native.Nat.{ℕ}
use mathlib.Core.Path.{◌≡◌, sym, ◌∙◌, ap}
use Rattle.definitions.specs.Answers.{refuse_with, ◌then◌}
use Rattle.definitions.specs.Input.{alone, input_with, limit_of, system_of}
use Rattle.definitions.specs.Refusals.{in_order, check7}
use Rattle.definitions.specs.Tables.{plain_run}
use Rattle.calls.specs.Paper.{run_of, state_of}
use Rattle.record_order.specs.Order.{order_plain, record_fits}
use mathlib.Core.Bool.{not}
use Rattle.checks.proofs.order.check.Goals as goal
use Rattle.checks.proofs.order.check.Goals.{After-in_order}

-- what the test says is in order
ordered : (c : After-in_order) (p : ℕ)
    → c.in_order.result ≡ in_order (system_of (input_with alone c.args.limit p c.args.q c.args.coefs.now))
    (state_of c.args.stack.now c.args.list.now c.args.r)
ordered c p =
    let a = c.args in
    c.in_order.ensures
    ∙ ap (λ l. record_fits plain_run a.q a.q l a.stack.now a.list.now (run_of a.r)) c.limit_of-most.ensures
    ∙ sym (order_plain p a.q a.coefs.now (limit_of a.limit) (state_of a.stack.now a.list.now a.r))

pub in_order-requires : goal.in_order-requires
in_order-requires c = (c.requires.least, c.requires)

pub returns-then-not-in_order : goal.returns-then-not-in_order
unfolding refuse_with ◌then◌
returns-then-not-in_order c p = rw (← ordered (goal.at.returns-then-not-in_order c).After-in_order p, (ap not c.if-not-in_order.true))

pub returns : goal.returns
unfolding refuse_with ◌then◌ check7
returns c p = rw (← ordered (goal.at.returns c).After-in_order p, (ap not c.if-not-in_order.false)) c.check.ensures
