-- `take` meets its contract: each way out is one of `Taking`. Assumes nothing.
use mathlib.Core.Bool.{false}
use mathlib.Core.Path.{◌≡◌, sym, ◌∙◌}
use native.Mathlib.Omega.{arith}
use Rattle.calls.proofs.CallLaws.{handed_on}
use Rattle.definitions.specs.System.{solves}
use Rattle.definitions.specs.Tables.{State}
use Rattle.desk_spec.specs.Desks.{desk_of, desk_top, second_group}
use Rattle.desk_walk.specs.Taking.{came_listed, solved, state_at, take_grown, take_large, take_pushing, trying}
use Rattle.desk_walk.proofs.take.Goals as goal
use Rattle.desk_walk.proofs.take.Goals.{Else-vanishes, Start}

abbrev state : Start → State
state s = state_at s.args.r s.args.stack.now s.args.list.now s.args.height s.args.found s.args.steps s.args.deepest

abbrev state_else : Else-vanishes → State
state_else e = state_at e.args.r e.args.stack.now e.args.list.now e.args.height e.args.found e.args.steps e.args.deepest

-- where the top is no solution
none : (e : Else-vanishes)
    → solves (second_group (desk_of e.args.p e.args.q e.args.coefs.now e.args.generators.now))
    (desk_top (desk_of e.args.p e.args.q e.args.coefs.now e.args.generators.now) (state_else e)) ≡ false
none e = sym (solved (state_else e) e.requires.standing) ∙ sym e.vanishes.ensures ∙ e.if-vanishes.false

pub admitted_generators-requires : goal.admitted_generators-requires
admitted_generators-requires c = (
  rw c.requires.n_value.0
      (trying (state (goal.at.admitted_generators-requires c).Start) c.requires.standing),
  c.requires.n_value.1,
)

pub returns-in_err-listed : goal.returns-in_err-listed
returns-in_err-listed c =
    let s = (goal.at.returns-in_err-listed c).Start in
    rw (handed_on c.from_residual.ensures)
    (came_listed (state s) c.requires.standing (sym (solved (state s) c.requires.standing) ∙ sym c.vanishes.ensures ∙ c.if-vanishes.true)
    c.in_err-listed.ensures)

pub returns-in_err-made : goal.returns-in_err-made
returns-in_err-made c =
    rw (handed_on c.from_residual-in_err-made.ensures)
    (take_large (state (goal.at.returns-in_err-made c).Start) c.requires.standing (none (goal.at.returns-in_err-made c).Else-vanishes) c.requires.n_value.0
    c.join-marks.ensures c.in_err-made.ensures)

pub push-grown-requires : goal.push-grown-requires
push-grown-requires c = (
  take_pushing (state (goal.at.push-grown-requires c).Start) c.requires.standing (none (goal.at.push-grown-requires c).Else-vanishes) c.requires.n_value.0
      c.join-marks.ensures c.in_ok-made.ensures,
  omega (arith, c.admitted_generators.auto.child, c.requires.n_value.1),
)

pub returns-then-vanishes : goal.returns-then-vanishes
returns-then-vanishes c =
    let s = (goal.at.returns-then-vanishes c).Start in
    came_listed (state s) c.requires.standing (sym (solved (state s) c.requires.standing) ∙ sym c.vanishes.ensures ∙ c.if-vanishes.true) c.in_ok-listed.ensures

pub returns : goal.returns
returns c =
    take_grown (state (goal.at.returns c).Start) c.requires.standing (none (goal.at.returns c).Else-vanishes) c.requires.n_value.0
    c.join-marks.ensures c.in_ok-made.ensures c.push-grown.ensures.value c.push-grown.ensures.stack_after
