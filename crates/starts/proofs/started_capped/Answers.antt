-- `started_capped` meets its contract: the check decides, and the rows written are those of the start, on one unknown more. Assumes nothing.
use native.Mathlib.Numerals.{add-one}
use native.Mathlib.Omega.{arith}
use Rattle.definitions.specs.Tables.{units_start}
use Rattle.definitions.specs.Calls.{start}
use Rattle.laws.proofs.RefusalLaws.{start_shaped}
use Rattle.calls.proofs.CallLaws.{call_refused, call_passed, passes}
use Rattle.starts.proofs.started_capped.Goals as goal

pub overflow_add-wide : goal.overflow_add-wide
overflow_add-wide c =
    let g = start_shaped _ _ (passes (c.check_start_capped.ensures 0) c.in_default.is) in
    omega (arith, g.q_few)

pub write_units-requires : goal.write_units-requires
write_units-requires c =
    let a = c.args in
    let g = start_shaped _ _ (passes (c.check_start_capped.ensures 0) c.in_default.is) in
    rw (add-one a.q) (g.q_few, g.stack)

pub returns-in-Err : goal.returns-in-Err
unfolding start
returns-in-Err c limit =
    rw c.refused.ensures (call_refused (c.check_start_capped.ensures limit) _ _ c.in-Err.is)

pub returns : goal.returns
unfolding start units_start
returns c limit =
    let a = c.args in
    call_passed (c.check_start_capped.ensures limit) _ _ c.in_default.is (rw (c.begun.ensures, c.write_units.ensures, add-one a.q))
