-- `walk_system` meets its contract. The walk from the first state is, at each turn, the walk from the state reached with the budget left. The measure is
-- the number of steps until the call stops. Assumes nothing.
use mathlib.Core.Path.{◌≡◌, refl, sym, ◌∙◌, ap}
use Prim.Native.Nat.{ℕ, suc, max, ◌+◌, ◌-◌, ◌≤◌}
use native.Mathlib.Omega.{arith}
use Rattle.std.specs.Prelude.{Ok}
use lib.ListN.{get_or}
use Rattle.definitions.specs.Calls.{machine_of}
use Rattle.definitions.specs.Machine.{walk}
use Rattle.definitions.specs.Refusals.{step_limit}
use Rattle.definitions.specs.Step.{deeper, top}
use Rattle.definitions.specs.Tables.{State}
use Rattle.calls.specs.Paper.{kind_of, state_with, system_with}
use Rattle.calls.specs.declared.Record.{Record}
use Rattle.products.specs.ProductLaws.{gram_small}
use Rattle.candidates.specs.Kinds.{asked, beside, kind_by}
use Rattle.walking.specs.WalkLaws.{
  blank_zeros,
  ends_complete,
  ends_late,
  ends_paused,
  found_small,
  second_small,
  small_coefs,
  small_rows,
  standing,
  turn_grown,
  turn_listed,
  turn_listed₂,
  turn_refused,
}
use Rattle.walking.proofs.walk_system.Goals as goal
use Rattle.walking.proofs.walk_system.Goals.{After-take, At-loop-height, In-loop-height, in-Grown, in-Listed, in-ListedSecond}

-- ---- where things began

-- what a step of the turn is told
abbrev told : At-loop-height → State
told a = asked a.loop-height.stack a.loop-height.list a.loop-height.second a.loop-height.height a.loop-height.found a.loop-height.other

-- ---- a turn

module _ (l : In-loop-height) where
  abbrev first : ℕ
  first = l.args.r.steps.0

  abbrev stop : ℕ
  stop = l.min-stop.result

  stop_is : stop ≤ first + l.args.budget
  stop_is = omega (arith, l.min-stop.ensures)

  stop_few : stop ≤ step_limit
  stop_few = omega (arith, l.min-stop.ensures)

  height_few : l.loop-height.height ≤ 16
  height_few = omega (arith, l.loop-height.invariant.3.valid.ordered.height, l.loop-height.invariant.3.valid.shaped.q_few)

-- the step of the turn
module _ (t : After-take) where
  abbrev r : Record
  r = t.args.r

  early : ¬ (t.loop-height.steps ≡ step_limit)
  early is = omega (arith, t.if-steps-stop.false, t.min-stop.ensures, t.loop-height.invariant.5)

  more : t.args.r.steps.0 + t.args.budget - t.loop-height.steps ≡ suc (t.args.r.steps.0 + t.args.budget - (t.loop-height.steps + 1))
  more = omega (arith, t.if-steps-stop.false, t.min-stop.ensures, t.loop-height.invariant.5, t.loop-height.invariant.6)

  deep : max t.loop-height.deepest (get_or t.loop-height.sums (t.loop-height.height - 1) 0)
      ≡ deeper t.args.q (beside (asked t.loop-height.stack t.loop-height.list t.loop-height.second t.loop-height.height t.loop-height.found t.loop-height.other)
      (kind_of r.kind) t.loop-height.steps r.steps2.0 t.loop-height.deepest)
      (top (system_with (kind_by t.args.kind) t.args.p t.args.q t.args.coefs.now t.args.limit)
      (asked t.loop-height.stack t.loop-height.list t.loop-height.second t.loop-height.height t.loop-height.found t.loop-height.other))
  deep = ap (max t.loop-height.deepest) (t.loop-height.invariant.3.summed.levels (t.loop-height.height - 1) (omega (arith, t.loop-height-test.true)))

pub write_gram-requires : goal.write_gram-requires
write_gram-requires c = (small_coefs c.requires.0, refl, blank_zeros)

pub write_products-requires : goal.write_products-requires
write_products-requires c =
    let v = c.requires.0 in
    record { small_gram = (gram_small (small_coefs v) c.write_gram.ensures, refl, blank_zeros); small_rows = (small_rows v, refl) }

pub loop-height-init : goal.loop-height-init
loop-height-init c =
    let m = system_with (kind_by c.args.kind) c.args.p c.args.q c.args.coefs.now c.args.limit in (
      refl,
      refl,
      refl,
      record {
        valid = c.requires.0;
        cached = c.write_products.ensures.combined;
        summed = c.write_products.ensures.totals;
        same =
            λ checks. ap (λ n. walk n (machine_of checks m) (state_with c.args.stack.now c.args.list.now c.args.second.now c.args.r))
            (omega arith);
      },
      refl,
      omega (arith, c.min-stop.ensures, c.requires.0.ordered.early),
      omega arith,
    )

pub overflow_sub-steps : goal.overflow_sub-steps
overflow_sub-steps c = c.loop-height.invariant.6

pub returns-then-steps-first : goal.returns-then-steps-first
returns-then-steps-first c checks =
    rw c.left.ensures (sym
    (ends_paused c.loop-height.invariant.3 checks c.loop-height-test.true (omega (arith, c.if-steps-first.true, c.loop-height.invariant.6))))

pub returns-then-steps-stop : goal.returns-then-steps-stop
returns-then-steps-stop c checks =
    let at-stop = c.if-steps-stop.true in
    let more : first (goal.at.returns-then-steps-stop c).In-loop-height + c.args.budget - c.loop-height.steps
    ≡ suc (first (goal.at.returns-then-steps-stop c).In-loop-height + c.args.budget - c.loop-height.steps - 1) =
    omega (arith, c.if-steps-first.false, at-stop, stop_is (goal.at.returns-then-steps-stop c).In-loop-height, c.loop-height.invariant.6) in
    rw c.left-then-steps-stop.ensures
    (sym (ends_late c.loop-height.invariant.3 checks c.loop-height-test.true more
    (omega (arith, c.if-steps-first.false, at-stop, c.min-stop.ensures, c.loop-height.invariant.6))))

pub offset_bounds-sums-height : goal.offset_bounds-sums-height
offset_bounds-sums-height c = omega (arith, height_few (goal.at.offset_bounds-sums-height c).In-loop-height)

pub bounds-sums-height : goal.bounds-sums-height
bounds-sums-height c = omega (arith, height_few (goal.at.bounds-sums-height c).In-loop-height, c.loop-height-test.true)

pub take-requires : goal.take-requires
take-requires c =
    let w = c.loop-height.invariant.3 in
    let r = c.args.r in record {
      standing = standing (told (goal.at.take-requires c).At-loop-height) (kind_of r.kind) c.loop-height.steps r.steps2.0 c.loop-height.deepest w.valid
          (gram_small (small_coefs c.requires.0) c.write_gram.ensures) w.cached w.summed c.loop-height-test.true;
      bounds = (c.requires.1, omega (arith, c.loop-height.invariant.4, c.requires.0.shaped.q_few));
    }

pub overflow_add-found : goal.overflow_add-found
overflow_add-found c =
    let r = c.args.r in
    let next = turn_listed (told (goal.at.overflow_add-found c).At-loop-height) (kind_of r.kind) c.loop-height.steps r.steps2.0 c.loop-height.deepest
    c.loop-height.invariant.3
    c.write_gram.ensures c.loop-height-test.true (more (goal.at.overflow_add-found c).After-take) (early (goal.at.overflow_add-found c).After-take)
    c.take.ensures (c.in-Ok.is ∙ ap Ok c.in-Listed.is) refl refl refl refl in
    omega (arith, found_small next.valid, c.take.auto.list, c.loop-height.invariant.1, c.well_formed.1.1.1.1.1.0)

pub overflow_add-other : goal.overflow_add-other
overflow_add-other c =
    let r = c.args.r in
    let small = second_small (told (goal.at.overflow_add-other c).At-loop-height) (kind_of r.kind) c.loop-height.steps r.steps2.0 c.loop-height.deepest
    c.loop-height.invariant.3
    c.write_gram.ensures c.loop-height-test.true (more (goal.at.overflow_add-other c).After-take) (early (goal.at.overflow_add-other c).After-take)
    c.take.ensures (c.in-Ok.is ∙ ap Ok c.in-ListedSecond.is) in
    omega (arith, small, c.loop-height.invariant.2, c.well_formed.1.1.1.1.1.1.0)

pub shape_of-stack-in-Err : goal.shape_of-stack-in-Err
shape_of-stack-in-Err c = c.take.auto.stack ∙ c.loop-height.invariant.0

pub shape_of-list-in-Err : goal.shape_of-list-in-Err
shape_of-list-in-Err c = c.take.auto.list ∙ c.loop-height.invariant.1

pub shape_of-second-in-Err : goal.shape_of-second-in-Err
shape_of-second-in-Err c = c.take.auto.second ∙ c.loop-height.invariant.2

pub returns-in-Err : goal.returns-in-Err
returns-in-Err c checks =
    let r = c.args.r in
    rw c.left-in-Err.ensures
    (sym (turn_refused (told (goal.at.returns-in-Err c).At-loop-height) (kind_of r.kind) c.loop-height.steps r.steps2.0 c.loop-height.deepest
    c.loop-height.invariant.3
    c.write_gram.ensures c.loop-height-test.true (more (goal.at.returns-in-Err c).After-take) (early (goal.at.returns-in-Err c).After-take)
    c.take.ensures checks c.in-Err.is))

pub overflow_add-steps : goal.overflow_add-steps
overflow_add-steps c = omega (arith, c.loop-height.invariant.5, stop_few (goal.at.overflow_add-steps c).In-loop-height)

pub loop-height-smaller : goal.loop-height-smaller
loop-height-smaller c =
    omega (arith, c.if-steps-stop.false, c.loop-height.invariant.5)

pub loop-height-preserved : goal.loop-height-preserved
loop-height-preserved c =
    let r = c.args.r in
    let w = c.loop-height.invariant.3 in
    let g = c.write_gram.ensures in
    let d = c.max-next.ensures ∙ deep (goal.at.loop-height-preserved c).After-take in (
      c.take.auto.stack ∙ c.loop-height.invariant.0,
      c.take.auto.list ∙ c.loop-height.invariant.1,
      c.take.auto.second ∙ c.loop-height.invariant.2,
      elim c.match-taken.branch [
        | in-Listed v ↦ turn_listed (told (goal.at.loop-height-preserved c).At-loop-height) (kind_of r.kind) c.loop-height.steps r.steps2.0
            c.loop-height.deepest w g
            c.loop-height-test.true (more (goal.at.loop-height-preserved c).After-take) (early (goal.at.loop-height-preserved c).After-take) c.take.ensures
            (c.in-Ok.is ∙ ap Ok v.in-Listed.is) v.height-is v.found-is v.other-is d
        | in-ListedSecond v ↦ turn_listed₂ (told (goal.at.loop-height-preserved c).At-loop-height) (kind_of r.kind) c.loop-height.steps r.steps2.0
            c.loop-height.deepest w g
            c.loop-height-test.true (more (goal.at.loop-height-preserved c).After-take) (early (goal.at.loop-height-preserved c).After-take) c.take.ensures
            (c.in-Ok.is ∙ ap Ok v.in-ListedSecond.is) v.height-is v.found-is v.other-is d
        | in-Grown v ↦ turn_grown (told (goal.at.loop-height-preserved c).At-loop-height) (kind_of r.kind) c.loop-height.steps r.steps2.0 c.loop-height.deepest
            w g
            c.loop-height-test.true (more (goal.at.loop-height-preserved c).After-take) (early (goal.at.loop-height-preserved c).After-take) c.take.ensures
            (c.in-Ok.is ∙ ap Ok v.in-Grown.is) v.height-is v.found-is v.other-is d
      ],
      c.take.auto.top ∙ c.loop-height.invariant.4,
      omega (arith, c.if-steps-stop.false, c.loop-height.invariant.5),
      omega (arith, c.loop-height.invariant.6),
    )

pub returns : goal.returns
returns c checks =
    rw c.left-2.ensures (sym (ends_complete c.loop-height.invariant.3 checks (omega (arith, c.loop-height-test.false))))
