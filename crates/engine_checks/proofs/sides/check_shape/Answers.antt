-- `sides::check_shape` meets its contract. Assumes nothing.
use Rattle.std.proofs.Common.{◌∙◌, ◌+◌, arith, mul-le-mul}
use Rattle.std.proofs.lemmas.Grind.{common_steps}
use Rattle.definitions.specs.Answers.{refuse_with, ◌then◌}
use Rattle.calls.proofs.CallLaws.{handed_on, passes}
use Rattle.checks.specs.CheckLaws.{passed_first, refused_first}
use Rattle.engine_checks.specs.Sizes.{sized}
use Rattle.engine_checks.specs.Sides.{shape_checks}
use Rattle.engine_checks.proofs.sides.check_shape.Goals as goal

pub returns-in_err-check : goal.returns-in_err-check
unfolding shape_checks
returns-in_err-check c = rw (handed_on c.from_residual.ensures) (refused_first _ c.in_err-check.was c.check.ensures)

pub returns-then-q-eq32 : goal.returns-then-q-eq32
unfolding shape_checks refuse_with ◌then◌
returns-then-q-eq32 c = grind (arith, common_steps) ∙ passed_first _ c.in_ok-check.was c.check.ensures

pub overflow_mul-p : goal.overflow_mul-p
overflow_mul-p c =
    let z = sized c.args.p c.args.q (passes c.check.ensures c.in_ok-check.was) in
    omega (arith, mul-le-mul z.equations z.unknowns)

pub returns-then-coefs-p : goal.returns-then-coefs-p
unfolding shape_checks refuse_with ◌then◌
returns-then-coefs-p c = grind (arith, common_steps) ∙ passed_first _ c.in_ok-check.was c.check.ensures

pub overflow_add-q : goal.overflow_add-q
overflow_add-q c = omega (arith, (sized c.args.p c.args.q (passes c.check.ensures c.in_ok-check.was)).unknowns)

pub overflow_mul-p-2 : goal.overflow_mul-p-2
overflow_mul-p-2 c =
    let z = sized c.args.p c.args.q (passes c.check.ensures c.in_ok-check.was) in
    omega (arith, mul-le-mul {n₁ = c.args.p} {m₁ = c.args.q + 1} {n₂ = 32} {m₂ = 33} z.equations (omega (arith, z.unknowns)))

pub overflow_add-q-else-equations-p : goal.overflow_add-q-else-equations-p
overflow_add-q-else-equations-p c = omega (arith, (sized c.args.p c.args.q (passes c.check.ensures c.in_ok-check.was)).unknowns)

pub overflow_add-q-else-equations-p-2 : goal.overflow_add-q-else-equations-p-2
overflow_add-q-else-equations-p-2 c = omega (arith, (sized c.args.p c.args.q (passes c.check.ensures c.in_ok-check.was)).unknowns)

pub returns-then-equations-p : goal.returns-then-equations-p
unfolding shape_checks refuse_with ◌then◌
returns-then-equations-p c = grind (arith, common_steps) ∙ passed_first _ c.in_ok-check.was c.check.ensures

pub returns-then-lower-q : goal.returns-then-lower-q
unfolding shape_checks refuse_with ◌then◌
returns-then-lower-q c = grind (arith, common_steps) ∙ passed_first _ c.in_ok-check.was c.check.ensures

pub returns : goal.returns
unfolding shape_checks refuse_with ◌then◌
returns c = grind (arith, common_steps) ∙ passed_first _ c.in_ok-check.was c.check.ensures
