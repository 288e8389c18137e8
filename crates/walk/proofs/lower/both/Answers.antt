-- `walk::lower::both` meets its contract: what the plain walk comes to decides, and where it completes the walk above the bound goes on from the row of the
-- bound. Assumes nothing.
use mathlib.Core.Path.{◌≡◌, refl, sym, ◌∙◌, ap, subst}
use Prim.Native.Nat.{ℕ, ◌-◌}
use native.Mathlib.Omega.{arith}
use lib.ListN.{length}
use Rattle.definitions.specs.Answers as paper
use Rattle.definitions.specs.Calls.{machine_from, machine_of}
use Rattle.definitions.specs.Input.{Input, alone, input_with, limit_of}
use Rattle.definitions.specs.Machine.{Outcome, walk}
use Rattle.definitions.specs.System.{plain}
use Rattle.definitions.specs.Tables.{State}
use Rattle.laws.specs.LowerLaws.{ValidFrom}
use Rattle.laws.proofs.LowerLaws.{plain_valid}
use Rattle.calls.specs.Paper.{answer_of, kind_of, state_with, system_with}
use Rattle.walk.specs.Lower.{change_made, change_valid, changed_walk, ended_by, first_row, plainly, steps_more}
use Rattle.walk.proofs.lower.both.Goals as goal
use Rattle.walk.proofs.lower.both.Goals.{After-walk_system-o, Start}

abbrev input_at : Start → Input
input_at s = let a = s.args in input_with alone a.limit a.p a.q a.coefs.now

abbrev state_at : Start → State
state_at s = let a = s.args in state_with a.stack.now a.list.now a.second.now a.r

-- what the definitions say of the plain walk
abbrev meant : After-walk_system-o → Outcome State
meant w = plainly w.args.lower.now (input_at w.before.before.before.before.before.before.before.before.before.before.before)
    (state_at w.before.before.before.before.before.before.before.before.before.before.before) w.requires.0 w.requires.1 w.args.budget

-- the walk that was made is that one
made : (w : After-walk_system-o) → let a = w.args in walk a.budget (machine_of (λ t. paper.go) (system_with plain a.p a.q a.coefs.now w.limit_of-most.result))
    (state_with a.stack.now a.second.now a.list.now w.plain_part-plain.result)
    ≡ meant w
made w =
    let a = w.args in
    ap (λ most. walk a.budget (machine_of (λ t. paper.go) (system_with plain a.p a.q a.coefs.now most))
    (state_with a.stack.now a.second.now a.list.now w.plain_part-plain.result))
    w.limit_of-most.ensures
    ∙ ap (λ r. walk a.budget (machine_of (λ t. paper.go) (system_with plain a.p a.q a.coefs.now (limit_of a.limit)))
    (state_with a.stack.now a.second.now a.list.now r))
    w.plain_part-plain.ensures

pub walk_system-o-requires : goal.walk_system-o-requires
walk_system-o-requires c = (
  rw (c.plain_part-plain.ensures, c.limit_of-most.ensures)
      (plain_valid c.args.lower.now (input_at (goal.at.walk_system-o-requires c).Start) (state_at (goal.at.walk_system-o-requires c).Start) c.requires.1
      c.requires.0),
  tt,
)

-- the record has the steps of the plain walk more, and these are within the budget
pub overflow_sub-left : goal.overflow_sub-left
overflow_sub-left c =
    let e = ap (λ o. o.state.run.steps) (c.walk_system-o.ensures (λ t. paper.go) ∙ made (goal.at.overflow_sub-left c).After-walk_system-o) in
    omega (
      arith,
      e,
      (steps_more c.args.lower.now (input_at (goal.at.overflow_sub-left c).Start) (state_at (goal.at.overflow_sub-left c).Start) c.requires.0
          c.requires.1 c.args.budget).0,
    )

pub overflow_sub-left-in-Complete : goal.overflow_sub-left-in-Complete
overflow_sub-left-in-Complete c =
    let e = ap (λ o. o.state.run.steps) (c.walk_system-o.ensures (λ t. paper.go) ∙ made (goal.at.overflow_sub-left-in-Complete c).After-walk_system-o) in
    let m = steps_more c.args.lower.now (input_at (goal.at.overflow_sub-left-in-Complete c).Start) (state_at (goal.at.overflow_sub-left-in-Complete c).Start)
    c.requires.0 c.requires.1 c.args.budget in
    omega (arith, e, m.0, m.1)

pub write_lower-requires : goal.write_lower-requires
write_lower-requires c =
    let e = ap (λ o. length o.state.stack) (c.walk_system-o.ensures (λ t. paper.go) ∙ made (goal.at.write_lower-requires c).After-walk_system-o) in
    let f = first_row c.args.lower.now (input_at (goal.at.write_lower-requires c).Start) (state_at (goal.at.write_lower-requires c).Start) c.requires.0
    c.requires.1 c.args.budget in
    (omega (arith, e, f.0), f.1)

pub further-requires : goal.further-requires
further-requires c =
    let told = c.walk_system-o.ensures (λ t. paper.go) ∙ made (goal.at.further-requires c).After-walk_system-o in
    let m = change_made c.args.lower.now (input_at (goal.at.further-requires c).Start) (state_at (goal.at.further-requires c).Start) c.requires.0 c.requires.1
    c.args.budget c.walk_system-o.result told
    c.write_lower.ensures c.run_by-next.ensures in
    let v = change_valid c.args.lower.now (input_at (goal.at.further-requires c).Start) (state_at (goal.at.further-requires c).Start) c.requires.0 c.requires.1
    c.args.budget in
    (subst (ValidFrom c.args.lower.now (input_at (goal.at.further-requires c).Start)) (sym m) v, ap (λ r. kind_of r.kind) c.run_by-next.ensures)

pub shape_of-stack-in-Complete : goal.shape_of-stack-in-Complete
shape_of-stack-in-Complete c =
    c.further.auto.stack ∙ c.write_lower.auto.stack ∙ c.walk_system-o.auto.stack

pub shape_of-list-in-Complete : goal.shape_of-list-in-Complete
shape_of-list-in-Complete c =
    c.further.auto.list ∙ c.walk_system-o.auto.second

pub shape_of-second-in-Complete : goal.shape_of-second-in-Complete
shape_of-second-in-Complete c =
    c.further.auto.second ∙ c.walk_system-o.auto.list

pub returns-in-Complete : goal.returns-in-Complete
returns-in-Complete c =
    let told = c.walk_system-o.ensures (λ t. paper.go) ∙ made (goal.at.returns-in-Complete c).After-walk_system-o in
    let m = steps_more c.args.lower.now (input_at (goal.at.returns-in-Complete c).Start) (state_at (goal.at.returns-in-Complete c).Start) c.requires.0
    c.requires.1 c.args.budget in
    let counted = ap (λ o. o.state.run.steps) told in
    let left : ℕ = c.args.budget - (c.walk_system-o.result.run.steps.0 - c.args.r.steps2.0) in
    c.further.ensures
    ∙ ap (walk left (machine_from c.args.lower.now (input_at (goal.at.returns-in-Complete c).Start)))
    (change_made c.args.lower.now (input_at (goal.at.returns-in-Complete c).Start) (state_at (goal.at.returns-in-Complete c).Start) c.requires.0 c.requires.1
    c.args.budget c.walk_system-o.result told
    c.write_lower.ensures c.run_by-next.ensures)
    ∙ changed_walk c.args.lower.now (input_at (goal.at.returns-in-Complete c).Start) (state_at (goal.at.returns-in-Complete c).Start) c.requires.0 c.requires.1
    c.args.budget
    (sym (ap (λ o. o.answer) told) ∙ ap answer_of c.in-Complete.is) left (omega (arith, counted, m.0, m.1))

pub returns-in_default : goal.returns-in_default
returns-in_default c =
    rw c.run_by-run.ensures
    (ended_by c.args.lower.now (input_at (goal.at.returns-in_default c).Start) (state_at (goal.at.returns-in_default c).Start) c.requires.0 c.requires.1
    c.args.budget _ (c.walk_system-o.ensures (λ t. paper.go) ∙ made (goal.at.returns-in_default c).After-walk_system-o)
    refl refl c.in_default.not-Complete)
