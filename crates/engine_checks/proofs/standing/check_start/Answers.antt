-- `standing::check_start` meets its contract. Assumes nothing.
use Rattle.std.proofs.Common.{◌∙◌}
use Rattle.calls.proofs.CallLaws.{handed_on, passes}
use Rattle.checks.specs.CheckLaws.{passed_first, refused_first}
use Rattle.engine_checks.specs.Standing.{coefficients_are, map_starts, start_checks_by}
use Rattle.engine_checks.proofs.standing.check_start.Goals as goal

pub returns-in_err-check_map : goal.returns-in_err-check_map
unfolding start_checks_by
returns-in_err-check_map c = rw (handed_on c.from_residual.ensures) (refused_first _ c.in_err-check_map.was c.check_map.ensures)

pub returns : goal.returns
unfolding start_checks_by
returns c =
    let s = c.args in
    let z = map_starts s.p s.q s.coefs.now s.most s.equations (passes c.check_map.ensures c.in_ok-check_map.was) in
    coefficients_are s.p s.q s.coefs.now z.count c.check.ensures ∙ passed_first _ c.in_ok-check_map.was c.check_map.ensures
