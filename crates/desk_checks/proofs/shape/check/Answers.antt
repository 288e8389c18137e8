-- `shape::check` meets its contract: the counts decide, else each test decides the first check that refuses. Assumes nothing.
use Prim.Native.Nat.{◌+◌, ◌*◌, ◌/◌, ◌%◌}
use borrow.Author.Tests.{le-ltb, lt-ltb, eq-eqb, ne_eqb}
use native.Mathlib.Omega.{arith}
use Rattle.calls.proofs.CallLaws.{handed_on, passes}
use Rattle.checks.specs.CheckLaws.{passed_first, refused_first}
use Rattle.checks.specs.Counts.{Counted, counted}
use Rattle.definitions.specs.Answers.{refuse_with, ◌then◌}
use Rattle.desk_checks.specs.Shape.{room_enough, room_short, shape_checks}
use Rattle.desk_checks.proofs.shape.check.Goals as goal
use Rattle.desk_checks.proofs.shape.check.Goals.{In_ok-check}

in_range : (t : In_ok-check) → Counted t.args.p t.args.q 0 t.args.coefs
in_range t = counted _ _ _ _ (passes t.check.ensures t.in_ok-check.was)

pub returns-in_err-check : goal.returns-in_err-check
unfolding shape_checks
returns-in_err-check c = rw (handed_on c.from_residual.ensures) (refused_first _ c.in_err-check.was c.check.ensures)

pub nonzero_rem-generators : goal.nonzero_rem-generators
nonzero_rem-generators c = omega (arith, (in_range c).some)

pub returns-then-generators-q-ne0 : goal.returns-then-generators-q-ne0
unfolding shape_checks refuse_with ◌then◌
returns-then-generators-q-ne0 c =
    let s = c.args in
    rw (← passed_first _ c.in_ok-check.was c.check.ensures, ne_eqb (s.generators % s.q) 0 c.if-generators-q-ne0.true)

pub overflow_add-q : goal.overflow_add-q
overflow_add-q c = omega (arith, (in_range (goal.at.overflow_add-q c).In_ok-check).unknowns)

pub nonzero_div-generators : goal.nonzero_div-generators
nonzero_div-generators c = omega (arith, (in_range (goal.at.nonzero_div-generators c).In_ok-check).some)

pub returns-then-stack-q : goal.returns-then-stack-q
unfolding shape_checks refuse_with ◌then◌
returns-then-stack-q c =
    let s = c.args in
    rw (
      ← passed_first _ c.in_ok-check.was c.check.ensures,
      eq-eqb (s.generators % s.q) 0 c.if-generators-q-ne0.false,
      lt-ltb s.stack (s.generators / s.q * (s.q + 2)) (room_short s.q (s.generators / s.q) s.stack c.if-stack-q.true),
    )

pub returns : goal.returns
unfolding shape_checks refuse_with ◌then◌
returns c =
    let s = c.args in
    rw (
      ← passed_first _ c.in_ok-check.was c.check.ensures,
      eq-eqb (s.generators % s.q) 0 c.if-generators-q-ne0.false,
      le-ltb s.stack (s.generators / s.q * (s.q + 2)) (room_enough s.q (s.generators / s.q) s.stack c.if-stack-q.false),
    )
