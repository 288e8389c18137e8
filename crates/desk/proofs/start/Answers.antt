-- `start` meets its contract: the check decides, and the rows are written. Assumes nothing.
use lib.ListN.{length}
use mathlib.Core.Path.{refl}
use native.Mathlib.Nat.{div-mul-le_self}
use native.Mathlib.Omega.{arith}
use Rattle.calls.proofs.CallLaws.{call_passed, call_refused, passes}
use Rattle.calls.specs.Paper.{state_of}
use Rattle.desk_spec.specs.Desks.{desk_begin, desk_of, desk_start}
use Rattle.desk_spec.proofs.Valid.{start_shaped}
use Rattle.desk.proofs.start.Goals as goal

pub nonzero_div-n : goal.nonzero_div-n
nonzero_div-n c =
    let a = c.args in
    let g = start_shaped (desk_of a.p a.q a.coefs.now a.generators.now) (state_of a.stack.now a.list.now a.r)
    (passes c.check_start.ensures c.in-Ok.is) in
    omega (arith, g.q_some)

pub write_start-requires : goal.write_start-requires
write_start-requires c =
    let a = c.args in
    let g = start_shaped (desk_of a.p a.q a.coefs.now a.generators.now) (state_of a.stack.now a.list.now a.r)
    (passes c.check_start.ensures c.in-Ok.is) in
    (g.q_few, g.few, div-mul-le_self (length a.generators.now) a.q, g.stack)

pub returns-in-Err : goal.returns-in-Err
unfolding desk_begin
returns-in-Err c =
    rw c.refused.ensures (call_refused c.check_start.ensures _ _ c.in-Err.is)

pub returns-in-Ok : goal.returns-in-Ok
unfolding desk_begin desk_start
returns-in-Ok c =
    call_passed c.check_start.ensures _ _ c.in-Ok.is (rw (c.begun.ensures, c.write_start.ensures) refl)
