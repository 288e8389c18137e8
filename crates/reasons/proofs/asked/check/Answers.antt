-- `reasons::asked::check` meets its contract: the counts decide, else each test decides where those before it do not. Assumes nothing.
use Rattle.std.proofs.Common.{arith, length}
use borrow.Author.Tests.{eq-eqb, le-leb, lt-leb, ne_eqb}
use Rattle.definitions.specs.Refusals.{sizes}
use Rattle.calls.proofs.CallLaws.{handed_on, passes}
use Rattle.checks.specs.Counts.{counted_within}
use Rattle.reasons.proofs.Refusals.{counts_off, in_ranges, many_rows, other_length}
use Rattle.reasons.proofs.asked.check.Goals as goal

pub returns-in_err-check_within : goal.returns-in_err-check_within
returns-in_err-check_within c = rw (handed_on c.from_residual.ensures) (counts_off _ _ _ _ _ _ _ c.check_within.ensures c.in_err-check_within.was)

pub returns-then-t-q : goal.returns-then-t-q
returns-then-t-q c = other_length _ _ _ _ _ _ _ c.check_within.ensures c.in_ok-check_within.was (ne_eqb _ _ c.if-t-q.true)

pub nonzero_div-list : goal.nonzero_div-list
nonzero_div-list c =
    let a = c.args in
    let passed = passes c.check_within.ensures c.in_ok-check_within.was in
    omega (arith, (counted_within (sizes a.equations a.unknowns) a.p a.q (length a.coefs.now) passed).0.some)

pub returns-then-list-q : goal.returns-then-list-q
returns-then-list-q c =
    many_rows _ _ _ _ _ _ _ c.check_within.ensures c.in_ok-check_within.was (eq-eqb _ _ c.if-t-q.false) (lt-leb _ _ c.if-list-q.true)

pub returns : goal.returns
returns c =
    in_ranges _ _ _ _ _ _ _ c.check_within.ensures c.in_ok-check_within.was (eq-eqb _ _ c.if-t-q.false) (le-leb _ _ c.if-list-q.false) c.ranges-2.ensures
