-- `sides::check_sides` meets its contract: no side passed is beyond the limit. Assumes nothing.
use Rattle.std.proofs.Common.{◌≡◌, refl, sym, rules, arith, to_z-of_z, pos, get_or, SFits, nat_abs}
use Rattle.std.specs.Prelude.{leb}
use Rattle.std.specs.Int.{w32}
use Rattle.std.proofs.lemmas.Grind.{common_steps}
use Rattle.definitions.specs.Answers.{refuse_first}
use Rattle.laws.proofs.AnswerLaws.{refuse_at, refuse_next}
use Rattle.engine_spec.specs.Beside.{coefficient_limit}
use Rattle.engine_spec.specs.StartSides.{side_at}
use Rattle.engine_checks.specs.Sides.{equation_small, side_read, side_checks}
use Rattle.engine_checks.proofs.sides.check_sides.Goals as goal
use Rattle.engine_checks.proofs.sides.check_sides.Goals.{After-is_small}

tested : (c : After-is_small)
    → let s = c.args in c.is_small.result ≡ leb (nat_abs (side_at s.q s.coefs.now s.rights.now s.lower.now c.loop-i.i)) coefficient_limit
tested c =
    let f : SFits w32 (get_or c.args.rights.now c.loop-i.i (pos 0)) = search rules in
    let v = rw (to_z-of_z f) at c.side_at.ensures in
    rw (side_read c.loop-i.i (equation_small c.requires.0 c.loop-i.i c.loop-i-test.true) c.requires.1 c.args.rights.now f v)
    at c.is_small.ensures

pub loop-i-init : goal.loop-i-init
unfolding side_checks refuse_first
loop-i-init c = refl

pub returns-then-not-is_small : goal.returns-then-not-is_small
unfolding side_checks
returns-then-not-is_small c =
    let t = tested (goal.at.returns-then-not-is_small c).After-is_small in
    sym (refuse_at 35 _ _ _ c.loop-i-test.true c.loop-i.invariant (grind (arith, common_steps)))

pub loop-i-preserved : goal.loop-i-preserved
unfolding side_checks
loop-i-preserved c =
    let t = tested (goal.at.loop-i-preserved c).After-is_small in
    refuse_next 35 _ _ c.loop-i.invariant (grind (arith, common_steps))
