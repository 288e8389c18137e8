-- `walk::lower::further` meets its contract: the walk above the bound, under the limit that counts. Assumes nothing.
use mathlib.Core.Path.{sym, ◌∙◌, ap}
use native.Mathlib.Omega.{arith}
use Rattle.definitions.specs.Answers.{Check, go}
use Rattle.definitions.specs.Calls.{machine_of}
use Rattle.definitions.specs.Input.{Input, alone, bound_of, input_with}
use Rattle.definitions.specs.Machine.{walk}
use Rattle.definitions.specs.System.{above}
use Rattle.definitions.specs.Tables.{State}
use Rattle.laws.proofs.LowerLaws.{above_valid}
use Rattle.laws.proofs.LowerWalk.{above_walks}
use Rattle.calls.specs.Paper.{state_with, system_with}
use Rattle.walk.proofs.lower.further.Goals as goal
use Rattle.walk.proofs.lower.further.Goals.{Start}

abbrev input_at : Start → Input
input_at s = let a = s.args in input_with alone a.limit a.p a.q a.coefs.now

abbrev state_at : Start → State
state_at s = let a = s.args in state_with a.stack.now a.list.now a.second.now a.r

unasked : State → Check
unasked s = go

pub walk_system-requires : goal.walk_system-requires
walk_system-requires c = (
  rw c.limit_of-most.ensures
      (above_valid c.args.lower.now (input_at (goal.at.walk_system-requires c).Start) (state_at (goal.at.walk_system-requires c).Start) c.requires.1
      c.requires.0),
  omega (arith, c.requires.0.long),
)

pub returns : goal.returns
returns c =
    let a = c.args in
    c.walk_system.ensures unasked
    ∙ ap (λ most. walk a.budget (machine_of unasked (system_with (above (bound_of a.lower.now)) a.p a.q a.coefs.now most)) (state_at (goal.at.returns c).Start))
    c.limit_of-most.ensures
    ∙ sym (above_walks unasked a.lower.now (input_at (goal.at.returns c).Start) a.budget (state_at (goal.at.returns c).Start) c.requires.1)
