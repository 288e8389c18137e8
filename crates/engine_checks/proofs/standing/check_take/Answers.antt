-- `standing::check_take` meets its contract. Assumes nothing.
use Rattle.std.proofs.Common.{◌∙◌, ◌≡◌, true, arith, sym}
use Rattle.std.proofs.lemmas.Grind.{common_steps}
use Rattle.definitions.specs.Answers.{refuse_with, ◌then◌}
use Rattle.engine_spec.specs.Calls.{is_left, take_checks}
use Rattle.calls.proofs.CallLaws.{handed_on, passes}
use Rattle.checks.specs.CheckLaws.{passed_first, refused_first}
use Rattle.engine_beside.specs.Records.{work_of}
use Rattle.engine_checks.specs.Standing.{basis_small, left_below, standing_then_lem, stands}
use Rattle.engine_checks.specs.Taking.{fresh_low, fresh_parts}
use Rattle.engine_checks.proofs.standing.check_take.Goals as goal

pub returns-in_err-check_standing : goal.returns-in_err-check_standing
unfolding take_checks
returns-in_err-check_standing c =
    rw (handed_on c.from_residual.ensures) (refused_first _ c.in_err-check_standing.was c.check_standing.ensures ∙ standing_then_lem _ _ _ _ _ _)

pub is_left-requires : goal.is_left-requires
is_left-requires c = (stands _ _ _ _ _ (passes c.check_standing.ensures c.in_ok-check_standing.was)).size.equations

pub returns-then-not-is_left : goal.returns-then-not-is_left
unfolding take_checks is_left refuse_with ◌then◌
returns-then-not-is_left c =
    grind (arith, common_steps) ∙ passed_first _ c.in_ok-check_standing.was c.check_standing.ensures ∙ standing_then_lem _ _ _ _ _ _

pub is_fresh-requires : goal.is_fresh-requires
is_fresh-requires c =
    let z = stands _ _ _ _ _ (passes c.check_standing.ensures c.in_ok-check_standing.was) in
    (z.size.equations, z.whole, left_below c.args.p c.args.e c.args.r.equation c.args.r.done (sym c.is_left.ensures ∙ c.if-not-is_left.false))

pub is_alone-requires : goal.is_alone-requires
is_alone-requires c =
    let s = c.args in
    let z = stands _ _ _ _ _ (passes c.check_standing.ensures c.in_ok-check_standing.was) in
    let fresh : c.is_fresh.result ≡ true = grind arith in
    (basis_small z c.requires.long, fresh_low s.p s.q s.e s.f (work_of s.equations.now s.basis.now s.table.now s.r) (sym c.is_fresh.ensures ∙ fresh))

pub returns-then-not-is_alone : goal.returns-then-not-is_alone
unfolding take_checks is_left refuse_with ◌then◌
returns-then-not-is_alone c =
    let s = c.args in
    let parts = fresh_parts s.p s.q s.e s.f (work_of s.equations.now s.basis.now s.table.now s.r) in
    grind (arith, common_steps) ∙ passed_first _ c.in_ok-check_standing.was c.check_standing.ensures ∙ standing_then_lem _ _ _ _ _ _

pub returns : goal.returns
unfolding take_checks is_left refuse_with ◌then◌
returns c =
    let s = c.args in
    let parts = fresh_parts s.p s.q s.e s.f (work_of s.equations.now s.basis.now s.table.now s.r) in
    grind (arith, common_steps) ∙ passed_first _ c.in_ok-check_standing.was c.check_standing.ensures ∙ standing_then_lem _ _ _ _ _ _
