-- `walk_desk` meets its contract. The walk from the first state is, at each turn, the walk from the state reached with the budget left. The measure is
-- that budget. Assumes nothing.
use Prim.Native.Nat.{ℕ, ◌<◌}
use mathlib.Core.Path.{◌≡◌, refl, sym, ◌∙◌, ap}
use native.Mathlib.Omega.{arith}
use Rattle.std.proofs.Common.{Ok}
use Rattle.definitions.specs.Answers.{complete}
use Rattle.desk_spec.specs.Desks.{Desk, desk_of}
use Rattle.desk_walk.specs.Turning.{deeper, images_stay, standing, turn_grown, turn_listed, turn_refused}
use Rattle.desk_walk.specs.Walking.{ends_complete, ends_late, ends_paused, swept_is}
use Rattle.desk_walk.proofs.walk_desk.Goals as goal
use Rattle.desk_walk.proofs.walk_desk.Goals.{Else-steps-eq-STEP_LIMIT, Start}

positive : {n : ℕ} → ¬ (n ≡ 0) → 0 < n
positive {n} h = omega (arith, h)

abbrev desk : Start → Desk
desk s = desk_of s.args.p s.args.q s.args.coefs.now s.args.generators.now

abbrev high : (e : Else-steps-eq-STEP_LIMIT) → 0 < e.loop-height.height
high e = e.loop-height-test.true

pub returns-then-left-eq0 : goal.returns-then-left-eq0
returns-then-left-eq0 c =
    rw c.left.ensures
    (sym (ends_paused (desk (goal.at.returns-then-left-eq0 c).Start) c.loop-height.invariant.2 c.loop-height-test.true c.if-left-eq0.true))

pub returns-then-steps-eq-STEP_LIMIT : goal.returns-then-steps-eq-STEP_LIMIT
returns-then-steps-eq-STEP_LIMIT c =
    rw c.left-then-steps-eq-STEP_LIMIT.ensures
    (sym (ends_late (desk (goal.at.returns-then-steps-eq-STEP_LIMIT c).Start) c.loop-height.invariant.2 c.loop-height-test.true
    (positive c.if-left-eq0.false) c.if-steps-eq-STEP_LIMIT.true))

pub take-requires : goal.take-requires
take-requires c =
    let at_top = high (goal.at.take-requires c).Else-steps-eq-STEP_LIMIT in
    record {
      standing =
          standing c.args.r c.loop-height.invariant.2.valid at_top c.if-steps-eq-STEP_LIMIT.false refl c.loop-height.invariant.3.0
          c.look.ensures.image_written c.look.ensures.holds (omega (arith, c.look.auto.top, c.loop-height.invariant.3.2, c.requires.shaped.q_few));
      n_value = (refl, omega (arith, c.loop-height.invariant.3.3, c.requires.shaped.q_few));
    }

pub returns-in-Err : goal.returns-in-Err
returns-in-Err c =
    rw c.left-in-Err.ensures
    (sym (turn_refused c.args.r c.loop-height.invariant.2 (high (goal.at.returns-in-Err c).Else-steps-eq-STEP_LIMIT)
    (positive c.if-left-eq0.false) c.take.ensures
    c.in-Err.is))

pub loop-height-preserved : goal.loop-height-preserved
loop-height-preserved c =
    let at_top = high (goal.at.loop-height-preserved c).Else-steps-eq-STEP_LIMIT in
    let more = positive c.if-left-eq0.false in
    let deep = deeper c.loop-height.deepest c.look.ensures.holds c.sum.ensures c.max-deepest.ensures in (
      c.take.auto.stack ∙ c.loop-height.invariant.0,
      c.take.auto.list ∙ c.loop-height.invariant.1,
      elim c.match-stepped.branch [
        | goal.in-Listed w ↦ turn_listed c.args.r c.loop-height.invariant.2 at_top more c.in-Ok.ensures (ap Ok w.in-Listed.is) w.height-is w.found-is deep
        | goal.in-Grown w ↦ turn_grown c.args.r c.loop-height.invariant.2 at_top more c.in-Ok.ensures (ap Ok w.in-Grown.is) w.height-is w.found-is deep
      ],
      (
        images_stay c.requires.shaped.p_few c.requires.shaped.few c.loop-height.invariant.3.0 c.look.ensures.image_written,
        c.look.ensures.image_written.size
            ∙ c.loop-height.invariant.3.1,
        c.look.auto.top ∙ c.loop-height.invariant.3.2,
        c.take.auto.child ∙ c.loop-height.invariant.3.3,
      ),
    )

pub returns : goal.returns
returns c =
    let zero = ends_complete (desk (goal.at.returns c).Start) c.loop-height.invariant.2 (omega (arith, c.loop-height-test.false)) in
    rw c.left-2.ensures (sym (zero ∙ ap (λ t. record { answer = complete; state = t }) (swept_is _ _ c.sweep-kept.ensures)))
