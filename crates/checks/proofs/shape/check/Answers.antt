-- `checks::shape::check` meets its contract: the counts decide, else each test decides the first check that refuses. Assumes nothing.
use Prim.Native.Nat.{◌+◌, ◌*◌}
use native.Mathlib.Nat.{mul-le-mul}
use native.Mathlib.Omega.{arith}
use borrow.Author.Tests.{le-ltb, lt-ltb, eq-eqb, ne_eqb}
use Rattle.definitions.specs.Answers.{refuse_with, ◌then◌}
use Rattle.calls.proofs.CallLaws.{handed_on, passes}
use Rattle.checks.specs.CheckLaws.{refused_first, passed_first}
use Rattle.checks.specs.Counts.{counted}
use Rattle.checks.specs.Shape.{shape_checks}
use Rattle.checks.proofs.shape.check.Goals as goal

pub returns-in_err-check : goal.returns-in_err-check
unfolding shape_checks
returns-in_err-check c = rw (handed_on c.from_residual.ensures) (refused_first _ c.in_err-check.was c.check.ensures)

pub returns-then-sides-p : goal.returns-then-sides-p
unfolding shape_checks refuse_with ◌then◌
returns-then-sides-p c = let a = c.args in rw (← passed_first _ c.in_ok-check.was c.check.ensures, ne_eqb a.sides a.p c.if-sides-p.true)

pub overflow_add-wide : goal.overflow_add-wide
overflow_add-wide c = omega (arith, (counted _ _ _ _ (passes c.check.ensures c.in_ok-check.was)).unknowns)

pub overflow_add-wide-2 : goal.overflow_add-wide-2
overflow_add-wide-2 c = omega (arith, (counted _ _ _ _ (passes c.check.ensures c.in_ok-check.was)).unknowns)

pub overflow_mul-wide : goal.overflow_mul-wide
overflow_mul-wide c =
    let a = c.args in
    let few = (counted _ _ _ _ (passes c.check.ensures c.in_ok-check.was)).unknowns in
    omega (arith, mul-le-mul {n₁ = a.q + a.extra} {m₁ = a.q + a.extra + 1} {n₂ = 16} {m₂ = 17} (omega arith) (omega arith))

pub returns-then-stack-wide : goal.returns-then-stack-wide
unfolding shape_checks refuse_with ◌then◌
returns-then-stack-wide c =
    let a = c.args in
    rw (
      ← passed_first _ c.in_ok-check.was c.check.ensures,
      eq-eqb a.sides a.p c.if-sides-p.false,
      lt-ltb a.stack ((a.q + a.extra) * (a.q + a.extra + 1)) c.if-stack-wide.true,
    )

pub returns : goal.returns
unfolding shape_checks refuse_with ◌then◌
returns c =
    let a = c.args in
    rw (
      ← passed_first _ c.in_ok-check.was c.check.ensures,
      eq-eqb a.sides a.p c.if-sides-p.false,
      le-ltb a.stack ((a.q + a.extra) * (a.q + a.extra + 1)) c.if-stack-wide.false,
    )
