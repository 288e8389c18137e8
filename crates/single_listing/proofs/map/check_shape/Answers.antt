-- `map::check_shape` meets its contract. The counts decide, else the room of the list table does. Assumes nothing.
use native.Mathlib.Omega.{arith}
use borrow.Author.Tests.{le-ltb, lt-ltb}
use Rattle.definitions.specs.Answers.{refuse_with}
use Rattle.calls.proofs.CallLaws.{handed_on, passes}
use Rattle.checks.specs.CheckLaws.{refused_first, passed_first}
use Rattle.checks.specs.Counts.{counted}
use Rattle.single_listing.specs.Passes.{shape_checks}
use Rattle.single_listing.proofs.map.check_shape.Goals as goal

pub nonzero_div-list : goal.nonzero_div-list
nonzero_div-list c = omega (arith, (counted _ _ _ _ (passes c.check.ensures c.in_ok-check.was)).some)

pub returns-then-list-q : goal.returns-then-list-q
unfolding shape_checks refuse_with
returns-then-list-q c =
    rw (← passed_first _ c.in_ok-check.was c.check.ensures, lt-ltb _ _ c.if-list-q.true)

pub returns-in_err-check : goal.returns-in_err-check
unfolding shape_checks
returns-in_err-check c = rw (handed_on c.from_residual.ensures) (refused_first _ c.in_err-check.was c.check.ensures)

pub returns : goal.returns
unfolding shape_checks refuse_with
returns c =
    rw (← passed_first _ c.in_ok-check.was c.check.ensures, le-ltb _ _ c.if-list-q.false)
