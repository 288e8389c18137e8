-- `resumed` meets its contract: the check decides, and the walk does the rest, with a second list of no places. Assumes nothing.
use mathlib.Core.Path.{◌∙◌, ap}
use Prim.Native.Nat.{ℕ}
use Rattle.definitions.specs.Calls.{machine_of}
use Rattle.definitions.specs.Input.{alone, input_with}
use Rattle.definitions.specs.Machine.{Outcome, call, walk}
use Rattle.definitions.specs.Refusals.{resume_checks}
use Rattle.definitions.specs.System.{plain}
use Rattle.definitions.specs.Tables.{State}
use Rattle.laws.proofs.RefusalLaws.{resume_valid}
use Rattle.calls.proofs.CallLaws.{call_refused, call_passed, passes}
use Rattle.calls.specs.Paper.{state_of, system_with}
use Rattle.walking.specs.WalkLaws.{empty_is}
use Rattle.walk.proofs.resumed.Goals as goal

pub walk_system-requires : goal.walk_system-requires
walk_system-requires c =
    (rw c.limit_of-most.ensures (resume_valid _ _ (passes c.check_resume.ensures c.in_default.is)), tt)

pub returns-in-Err : goal.returns-in-Err
unfolding call
returns-in-Err c =
    rw c.refused.ensures (call_refused c.check_resume.ensures _ _ c.in-Err.is)

pub returns : goal.returns
unfolding call
returns c =
    let i = input_with alone c.args.limit c.args.p c.args.q c.args.coefs.now in
    let none = empty_is c.walk_system.new.second c.walk_system.auto.second in
    let go : ℕ → Outcome State = λ n. walk c.args.budget (machine_of (resume_checks i) (system_with plain c.args.p c.args.q c.args.coefs.now n))
    (state_of c.args.stack.now c.args.list.now c.args.r) in
    call_passed c.check_resume.ensures _ _ c.in_default.is (rw none at (c.walk_system.ensures (resume_checks i)) ∙ ap go c.limit_of-most.ensures)
