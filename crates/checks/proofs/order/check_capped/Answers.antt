-- `checks::order::check_capped` meets its contract: 6 decides by what every run is asked or by what a capped one is, else 7 and 15 do. Assumes nothing.
use Prim.Native.Nat.{◌+◌}
use mathlib.Core.Path.{◌≡◌, ◌∙◌}
use native.Mathlib.Omega.{arith}
use Rattle.definitions.specs.Input.{limit_of}
use Rattle.definitions.specs.Refusals.{check7}
use Rattle.definitions.specs.Tables.{capped_run}
use Rattle.calls.specs.Paper.{run_of, state_with}
use Rattle.record_order.specs.Order.{capped_after, capped_first, capped_second, record_height, record_fits}
use mathlib.Core.Path.{ap}
use mathlib.Core.Bool.{not}
use Rattle.checks.proofs.order.check_capped.Goals as goal
use Rattle.checks.proofs.order.check_capped.Goals.{After-in_order}

-- the first test, with the limit that counts
tested : (c : After-in_order)
    → c.in_order.result ≡ record_fits capped_run (c.args.q + 1) c.args.q (limit_of c.args.limit) c.args.stack.now
    c.args.list.now (run_of c.args.r)
tested c = rw c.limit_of-most.ensures at c.in_order.ensures

pub returns-then-not-in_order : goal.returns-then-not-in_order
returns-then-not-in_order c p =
    let a = c.args in
    capped_first p a.q (a.q + 1) _ _ (state_with a.stack.now a.list.now a.second.now a.r) _ (omega arith)
    (tested (goal.at.returns-then-not-in_order c).After-in_order) (ap not c.if-not-in_order.true)

pub capped_fits-requires : goal.capped_fits-requires
capped_fits-requires c =
    (c.requires.0, record_height _ _ _ _ _ _ (run_of c.args.r) c.in_order.ensures (c.if-not-in_order.false), c.requires.1)

pub returns-then-not-capped_fits : goal.returns-then-not-capped_fits
returns-then-not-capped_fits c p =
    let a = c.args in
    capped_second p a.q (a.q + 1) _ _ (state_with a.stack.now a.list.now a.second.now a.r) _ (omega arith)
    (tested (goal.at.returns-then-not-capped_fits c).After-in_order)
    (ap not c.if-not-in_order.false) c.capped_fits.ensures (ap not c.if-not-capped_fits.true)

pub returns : goal.returns
unfolding check7
returns c p =
    let a = c.args in
    c.check_both.ensures
    ∙ capped_after p a.q (a.q + 1) _ _ (state_with a.stack.now a.list.now a.second.now a.r) _ (omega arith) (tested (goal.at.returns c).After-in_order)
    (ap not c.if-not-in_order.false) c.capped_fits.ensures (ap not c.if-not-capped_fits.false)
