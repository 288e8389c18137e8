-- `resumed_capped` meets its contract: the walk goes through the extended system. Assumes nothing.
use mathlib.Core.Path.{refl, sym, subst, ◌∙◌, ap}
use native.Mathlib.Omega.{arith}
use lib.ListN.{length-take}
use Rattle.definitions.specs.Calls.{machine_of}
use Rattle.definitions.specs.Input.{input_with, rights}
use Rattle.definitions.specs.Machine.{Outcome, call, walk}
use Rattle.definitions.specs.Refusals.{resume_checks}
use Rattle.definitions.specs.System.{System}
use Rattle.definitions.specs.Tables.{State}
use Rattle.laws.specs.RefusalLaws.{Handed, Valid}
use Rattle.laws.proofs.RefusalLaws.{resume_handed, resume_valid}
use Rattle.calls.proofs.CallLaws.{call_refused, call_passed, passes}
use Rattle.calls.specs.Paper.{state_with}
use Rattle.walk.specs.ExtendLaws.{Sided, extended_system, handed_sided, table_fits}
use Rattle.walk.proofs.resumed_capped.Goals as goal
use Rattle.walk.proofs.resumed_capped.Goals.{In_default}

-- what is known once the check has passed
module _ (t : In_default) where
  handed : Handed (input_with (rights t.args.rights.now) t.args.limit t.args.p t.args.q t.args.coefs.now)
  handed = resume_handed _ _ (passes t.check_resume_capped.ensures t.in_default.is)

  sided : Sided t.args.p t.args.q t.args.coefs.now t.args.rights.now
  sided = handed_sided handed

pub write-requires : goal.write-requires
write-requires c = (sided (goal.at.write-requires c).In_default, refl)

pub overflow_add-q : goal.overflow_add-q
overflow_add-q c = omega (arith, (sided (goal.at.overflow_add-q c).In_default).few)

pub overflow_add-wide : goal.overflow_add-wide
overflow_add-wide c = omega (arith, (sided (goal.at.overflow_add-wide c).In_default).few)

pub overflow_mul-wide : goal.overflow_mul-wide
overflow_mul-wide c = omega (arith, table_fits (sided (goal.at.overflow_mul-wide c).In_default))

pub slice_bounds-wide-end : goal.slice_bounds-wide-end
slice_bounds-wide-end c = omega (arith, table_fits (sided (goal.at.slice_bounds-wide-end c).In_default), c.write.ensures.size)

pub slice_bounds-whole-end : goal.slice_bounds-whole-end
slice_bounds-whole-end c = simp length-take (omega (arith, table_fits (sided (goal.at.slice_bounds-whole-end c).In_default), c.write.ensures.size))

pub walk_system-requires : goal.walk_system-requires
walk_system-requires c =
    let a = c.args in (
      subst (λ x. Valid x (state_with a.stack.now a.list.now a.second.now a.r))
          (extended_system (handed (goal.at.walk_system-requires c).In_default) c.write.ensures c.limit_of-most.ensures)
          (resume_valid _ _ (passes c.check_resume_capped.ensures c.in_default.is)),
      tt,
    )

pub returns-in-Err : goal.returns-in-Err
unfolding call
returns-in-Err c =
    rw c.refused.ensures (call_refused c.check_resume_capped.ensures _ _ c.in-Err.is)

pub returns : goal.returns
unfolding call
returns c =
    let a = c.args in
    let checks = resume_checks (input_with (rights a.rights.now) a.limit a.p a.q a.coefs.now) in
    let go : System → Outcome State = λ n. walk a.budget (machine_of checks n) (state_with a.stack.now a.list.now a.second.now a.r) in
    call_passed c.check_resume_capped.ensures _ _ c.in_default.is
    (c.walk_system.ensures checks ∙ ap go (sym (extended_system (handed (goal.at.returns c).In_default) c.write.ensures c.limit_of-most.ensures)))
