-- `record_order::in_order` meets its contract: a test that fails decides. Assumes nothing.
use mathlib.Core.Bool.{false, and-false}
use mathlib.Core.Path.{◌≡◌, sym, ◌∙◌}
use lib.Dec.{leb}
use borrow.Author.Tests.{le-leb, lt-leb}
use Rattle.definitions.specs.Refusals.{deepest_limit}
use Rattle.record_order.specs.Order.{record_fits}
use Rattle.record_order.proofs.in_order.Goals as goal

pub returns-then-not-same_run : goal.returns-then-not-same_run
unfolding record_fits
returns-then-not-same_run c = let e = sym c.same_run.ensures ∙ c.if-not-same_run.true in rw e

pub returns-then-q-height : goal.returns-then-q-height
unfolding record_fits
returns-then-q-height c =
    let a = c.args in
    let e : leb a.r.height a.q ≡ false = lt-leb _ _ c.if-q-height.true in
    rw (e, and-false)

pub returns-then-steps-gt-STEP_LIMIT : goal.returns-then-steps-gt-STEP_LIMIT
unfolding record_fits
returns-then-steps-gt-STEP_LIMIT c = rw (lt-leb _ _ c.if-steps-gt-STEP_LIMIT.true, and-false, and-false, and-false)

pub returns-then-deepest-gt-DEEPEST_LIMIT : goal.returns-then-deepest-gt-DEEPEST_LIMIT
unfolding record_fits
returns-then-deepest-gt-DEEPEST_LIMIT c =
    let a = c.args in
    let e : leb a.r.deepest deepest_limit ≡ false = lt-leb _ _ c.if-deepest-gt-DEEPEST_LIMIT.true in
    rw (e, and-false, and-false, and-false, and-false)

pub returns-then-list-width : goal.returns-then-list-width
unfolding record_fits
returns-then-list-width c = rw (lt-leb _ _ c.if-list-width.true, and-false, and-false)

pub returns : goal.returns
unfolding record_fits
returns c =
    rw (
      sym c.same_run.ensures ∙ c.if-not-same_run.false,
      le-leb _ _ c.if-q-height.false,
      le-leb _ _ c.if-list-width.false,
      le-leb _ _ c.if-steps-gt-STEP_LIMIT.false,
      le-leb _ _ c.if-deepest-gt-DEEPEST_LIMIT.false,
    ) c.rows_in_order.ensures
