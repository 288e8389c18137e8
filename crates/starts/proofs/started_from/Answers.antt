-- `started_from` meets its contract: the check decides, and the rows written are those of a plain start. Assumes nothing.
use mathlib.Core.Path.{refl}
use Rattle.definitions.specs.Tables.{lower_start}
use Rattle.definitions.specs.Calls.{start_from}
use Rattle.laws.proofs.RefusalLaws.{lower_shaped}
use Rattle.calls.proofs.CallLaws.{call_refused, call_passed, passes}
use Rattle.starts.proofs.started_from.Goals as goal

pub write_units-requires : goal.write_units-requires
write_units-requires c =
    let g = (lower_shaped _ _ _ refl (passes c.check_start_from.ensures c.in_default.is)).0 in
    (g.q_few, g.stack)

pub returns-in-Err : goal.returns-in-Err
unfolding start_from
returns-in-Err c =
    rw c.refused.ensures (call_refused c.check_start_from.ensures _ _ c.in-Err.is)

pub returns : goal.returns
unfolding start_from lower_start
returns c =
    call_passed c.check_start_from.ensures _ _ c.in_default.is (rw (c.begun.ensures, c.write_units.ensures))
