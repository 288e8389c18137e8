-- `standing::check_start_from` meets its contract. Assumes nothing.
use Rattle.std.proofs.Common.{◌∙◌, arith}
use Rattle.std.proofs.lemmas.Grind.{common_steps}
use Rattle.definitions.specs.Answers.{refuse_with, ◌then◌}
use Rattle.calls.proofs.CallLaws.{handed_on, passes}
use Rattle.checks.specs.CheckLaws.{passed_first, refused_first}
use Rattle.engine_checks.specs.Standing.{coefficients_are, map_starts, start_from_checks_by}
use Rattle.engine_checks.proofs.standing.check_start_from.Goals as goal

pub returns-in_err-check_map : goal.returns-in_err-check_map
unfolding start_from_checks_by
returns-in_err-check_map c = rw (handed_on c.from_residual.ensures) (refused_first _ c.in_err-check_map.was c.check_map.ensures)

pub returns-then-most-n : goal.returns-then-most-n
unfolding start_from_checks_by refuse_with ◌then◌
returns-then-most-n c = grind (arith, common_steps) ∙ passed_first _ c.in_ok-check_map.was c.check_map.ensures

pub is_list-requires : goal.is_list-requires
is_list-requires c =
    let s = c.args in
    let z = map_starts s.p s.q s.coefs.now s.most s.equations (passes c.check_map.ensures c.in_ok-check_map.was) in
    (z.size.unknowns, omega arith)

pub returns-then-not-is_list : goal.returns-then-not-is_list
unfolding start_from_checks_by refuse_with ◌then◌
returns-then-not-is_list c = grind (arith, common_steps) ∙ passed_first _ c.in_ok-check_map.was c.check_map.ensures

pub returns : goal.returns
unfolding start_from_checks_by refuse_with ◌then◌
returns c =
    let s = c.args in
    let z = map_starts s.p s.q s.coefs.now s.most s.equations (passes c.check_map.ensures c.in_ok-check_map.was) in
    let e = coefficients_are s.p s.q s.coefs.now z.count c.check.ensures in
    grind (arith, common_steps) ∙ passed_first _ c.in_ok-check_map.was c.check_map.ensures
