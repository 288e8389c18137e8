-- `standing::check_standing` meets its contract. Assumes nothing.
use Rattle.std.proofs.Common.{◌∙◌, arith, mul-le-mul}
use Rattle.std.proofs.lemmas.Grind.{common_steps}
use Rattle.definitions.specs.Answers.{refuse_with, ◌then◌}
use Rattle.calls.proofs.CallLaws.{handed_on, passes}
use Rattle.checks.specs.CheckLaws.{passed_first, refused_first}
use Rattle.engine_checks.specs.Sizes.{sized}
use Rattle.engine_checks.specs.Standing.{standing}
use Rattle.engine_checks.proofs.standing.check_standing.Goals as goal

pub returns-in_err-check : goal.returns-in_err-check
unfolding standing
returns-in_err-check c = rw (handed_on c.from_residual.ensures) (refused_first _ c.in_err-check.was c.check.ensures)

pub overflow_mul-p : goal.overflow_mul-p
overflow_mul-p c =
    let z = sized c.args.p c.args.q (passes c.check.ensures c.in_ok-check.was) in
    omega (arith, mul-le-mul z.equations z.unknowns)

pub returns-then-equations-p : goal.returns-then-equations-p
unfolding standing refuse_with ◌then◌
returns-then-equations-p c = grind (arith, common_steps) ∙ passed_first _ c.in_ok-check.was c.check.ensures

pub in_order-requires : goal.in_order-requires
in_order-requires c =
    let z = sized c.args.p c.args.q (passes c.check.ensures c.in_ok-check.was) in
    record { few = z.equations; some = z.some; unknowns = z.unknowns; numbers = grind arith; long = c.requires.long; wide = c.requires.wide }

pub returns-then-not-in_order : goal.returns-then-not-in_order
unfolding standing refuse_with ◌then◌
returns-then-not-in_order c = grind (arith, common_steps) ∙ passed_first _ c.in_ok-check.was c.check.ensures

pub returns : goal.returns
unfolding standing refuse_with ◌then◌
returns c = grind (arith, common_steps) ∙ passed_first _ c.in_ok-check.was c.check.ensures
