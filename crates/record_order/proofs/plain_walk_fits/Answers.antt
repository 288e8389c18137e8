-- `record_order::plain_walk_fits` meets its contract: the plain walk decides, then the other walk's list, then its steps. Assumes nothing.
use mathlib.Core.Bool.{and-false}
use mathlib.Core.Path.{◌≡◌, sym, ◌∙◌, ap}
use borrow.Author.Tests.{le-leb, lt-leb}
use Rattle.definitions.specs.Tables.{plain_run}
use Rattle.calls.specs.Paper.{plain_part_of, run_of}
use Rattle.record_order.specs.Order.{plain_walk_fits, record_fits}
use Rattle.record_order.proofs.plain_walk_fits.Goals as goal
use Rattle.record_order.proofs.plain_walk_fits.Goals.{After-in_order}

-- what the first test says, of the record that the plain walk sees
tested : (c : After-in_order) → let a = c.args in
    c.in_order.result ≡ record_fits plain_run a.q a.q a.limit a.stack.now a.second.now (run_of (plain_part_of a.r))
tested c =
    let a = c.args in
    c.in_order.ensures ∙ ap (λ r. record_fits plain_run a.q a.q a.limit a.stack.now a.second.now (run_of r)) c.plain_part-part.ensures

pub returns-then-not-in_order : goal.returns-then-not-in_order
unfolding plain_walk_fits
returns-then-not-in_order c = rw (sym (tested (goal.at.returns-then-not-in_order c).After-in_order) ∙ c.if-not-in_order.true)

pub returns-then-list-q : goal.returns-then-list-q
unfolding plain_walk_fits
returns-then-list-q c = rw (lt-leb _ _ c.if-list-q.true, and-false)

pub returns : goal.returns
unfolding plain_walk_fits
returns c = rw (sym (tested (goal.at.returns c).After-in_order) ∙ c.if-not-in_order.false, le-leb _ _ c.if-list-q.false)
