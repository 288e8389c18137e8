-- `standing::check_map` meets its contract. Assumes nothing.
use Rattle.std.proofs.Common.{arith, mul-le-mul, ◌∙◌}
use Rattle.std.proofs.lemmas.Grind.{common_steps}
use Rattle.definitions.specs.Answers.{refuse_with, ◌then◌}
use Rattle.calls.proofs.CallLaws.{handed_on, passes}
use Rattle.checks.specs.CheckLaws.{passed_first, refused_first}
use Rattle.engine_checks.specs.Sizes.{sized}
use Rattle.engine_checks.specs.Standing.{map_checks}
use Rattle.engine_checks.proofs.standing.check_map.Goals as goal

pub returns-in_err-check : goal.returns-in_err-check
unfolding map_checks
returns-in_err-check c = rw (handed_on c.from_residual.ensures) (refused_first _ c.in_err-check.was c.check.ensures)

pub overflow_mul-p : goal.overflow_mul-p
overflow_mul-p c =
    let z = sized c.args.p c.args.q (passes c.check.ensures c.in_ok-check.was) in
    omega (arith, mul-le-mul z.equations z.unknowns)

pub returns-then-coefs-p : goal.returns-then-coefs-p
unfolding map_checks refuse_with ◌then◌
returns-then-coefs-p c = grind (arith, common_steps) ∙ passed_first _ c.in_ok-check.was c.check.ensures

pub returns-then-equations-p : goal.returns-then-equations-p
unfolding map_checks refuse_with ◌then◌
returns-then-equations-p c = grind (arith, common_steps) ∙ passed_first _ c.in_ok-check.was c.check.ensures

pub returns : goal.returns
unfolding map_checks refuse_with ◌then◌
returns c = grind (arith, common_steps) ∙ passed_first _ c.in_ok-check.was c.check.ensures
