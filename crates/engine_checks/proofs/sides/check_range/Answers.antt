-- `sides::check_range` meets its contract. Assumes nothing.
use Rattle.std.proofs.Common.{◌∙◌, arith, sym}
use Rattle.std.proofs.lemmas.Grind.{common_steps}
use Rattle.definitions.specs.Answers.{refuse_with, ◌then◌}
use Rattle.calls.proofs.CallLaws.{handed_on, passes}
use Rattle.checks.specs.CheckLaws.{passed_first, refused_first}
use Rattle.engine_checks.specs.Sides.{bound_row, bound_small, range_checks, ranged, sides_tested}
use Rattle.engine_checks.specs.Standing.{coefficients_are}
use Rattle.engine_checks.proofs.sides.check_range.Goals as goal

pub returns-in_err-check : goal.returns-in_err-check
unfolding range_checks
returns-in_err-check c =
    let e = coefficients_are c.args.p c.args.q c.args.coefs.now c.requires.count c.check.ensures in
    rw (handed_on c.from_residual.ensures) (refused_first _ c.in_err-check.was e)

pub returns-then-not-small_at : goal.returns-then-not-small_at
unfolding range_checks refuse_with ◌then◌
returns-then-not-small_at c =
    let e = coefficients_are c.args.p c.args.q c.args.coefs.now c.requires.count c.check.ensures in
    let b = bound_small c.args.q c.args.lower.now in
    grind (arith, common_steps) ∙ passed_first _ c.in_ok-check.was e

pub returns-then-is_err : goal.returns-then-is_err
unfolding range_checks refuse_with ◌then◌
returns-then-is_err c =
    let e = coefficients_are c.args.p c.args.q c.args.coefs.now c.requires.count c.check.ensures in
    let b = bound_small c.args.q c.args.lower.now in
    let s = sides_tested c.args.rights.now c.check-2.result c.check-2.ensures in
    grind (arith, common_steps) ∙ passed_first _ c.in_ok-check.was e

pub check_sides-requires : goal.check_sides-requires
check_sides-requires c =
    let e = coefficients_are c.args.p c.args.q c.args.coefs.now c.requires.count c.check.ensures in (
      ranged c.requires (passes e c.in_ok-check.was),
      bound_row c.args.q c.args.lower.now c.requires.bound (sym c.small_at.ensures ∙ c.if-not-small_at.false),
    )

pub returns : goal.returns
unfolding range_checks refuse_with ◌then◌
returns c =
    let e = coefficients_are c.args.p c.args.q c.args.coefs.now c.requires.count c.check.ensures in
    let b = bound_small c.args.q c.args.lower.now in
    let s = sides_tested c.args.rights.now c.check-2.result c.check-2.ensures in
    grind (arith, common_steps) ∙ passed_first _ c.in_ok-check.was e
