-- `started` meets its contract: the check decides, and the rows written are those of the plain start. Assumes nothing.
use Rattle.definitions.specs.Tables.{units_start}
use Rattle.definitions.specs.Calls.{start}
use Rattle.laws.proofs.RefusalLaws.{start_shaped}
use Rattle.calls.proofs.CallLaws.{call_refused, call_passed, passes}
use Rattle.starts.specs.Limits.{for_every}
use Rattle.starts.proofs.started.Goals as goal

pub write_units-requires : goal.write_units-requires
write_units-requires c =
    let g = start_shaped _ _ (passes c.check_start.ensures c.in_default.is) in
    (g.q_few, g.stack)

pub returns-in-Err : goal.returns-in-Err
unfolding start
returns-in-Err c =
    for_every _ _ _ _ (rw c.refused.ensures (call_refused c.check_start.ensures _ _ c.in-Err.is))

pub returns : goal.returns
unfolding start units_start
returns c =
    for_every _ _ _ _ (call_passed c.check_start.ensures _ _ c.in_default.is (rw (c.begun.ensures, c.write_units.ensures)))
