-- `standing::check_combine` meets its contract. Assumes nothing.
use Rattle.std.proofs.Common.{◌∙◌, ◌≡◌, true, arith, sym, to_z-of_z}
use Rattle.std.proofs.lemmas.Grind.{common_steps}
use Rattle.definitions.specs.Answers.{refuse_with, ◌then◌}
use Rattle.engine_spec.specs.Calls.{combine_checks, is_left, is_operation}
use Rattle.calls.proofs.CallLaws.{handed_on, passes}
use Rattle.checks.specs.CheckLaws.{passed_first, refused_first}
use Rattle.engine_checks.specs.Operating.{combines_small}
use Rattle.engine_checks.specs.Standing.{equation_small, left_below, standing_then_lem, stands}
use Rattle.engine_checks.proofs.standing.check_combine.Goals as goal

pub returns-in_err-check_standing : goal.returns-in_err-check_standing
unfolding combine_checks
returns-in_err-check_standing c =
    rw (handed_on c.from_residual.ensures) (refused_first _ c.in_err-check_standing.was c.check_standing.ensures ∙ standing_then_lem _ _ _ _ _ _)

pub is_left-requires : goal.is_left-requires
is_left-requires c = (stands _ _ _ _ _ (passes c.check_standing.ensures c.in_ok-check_standing.was)).size.equations

pub returns-then-not-is_left : goal.returns-then-not-is_left
unfolding combine_checks is_left refuse_with ◌then◌
returns-then-not-is_left c =
    grind (arith, common_steps) ∙ passed_first _ c.in_ok-check_standing.was c.check_standing.ensures ∙ standing_then_lem _ _ _ _ _ _

pub is_operation-requires : goal.is_operation-requires
is_operation-requires c =
    let s = c.args in
    let z = stands _ _ _ _ _ (passes c.check_standing.ensures c.in_ok-check_standing.was) in
    let left : c.is_left.result ≡ true = grind arith in (
      equation_small z s.r (left_below s.p s.r s.run.equation s.run.done (sym c.is_left.ensures ∙ left)),
      equation_small z s.s (grind arith),
    )

pub returns-then-not-is_operation : goal.returns-then-not-is_operation
unfolding combine_checks is_left is_operation combines_small refuse_with ◌then◌
returns-then-not-is_operation c =
    let o = rw (to_z-of_z c.ranges.u, to_z-of_z c.ranges.t) at c.is_operation.ensures in
    grind (arith, common_steps) ∙ passed_first _ c.in_ok-check_standing.was c.check_standing.ensures ∙ standing_then_lem _ _ _ _ _ _

pub returns : goal.returns
unfolding combine_checks is_left is_operation combines_small refuse_with ◌then◌
returns c =
    let o = rw (to_z-of_z c.ranges.u, to_z-of_z c.ranges.t) at c.is_operation.ensures in
    grind (arith, common_steps) ∙ passed_first _ c.in_ok-check_standing.was c.check_standing.ensures ∙ standing_then_lem _ _ _ _ _ _
