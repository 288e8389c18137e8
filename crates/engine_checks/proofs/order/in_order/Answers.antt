-- `order::in_order` meets its contract. Assumes nothing.
use Rattle.std.proofs.Common.{◌≡◌, true, sym, ◌∙◌, arith}
use Rattle.std.proofs.lemmas.Grind.{common_steps}
use Rattle.engine_beside.specs.Records.{work_of}
use Rattle.engine_checks.specs.Order.{parts, rows_room, tested_small}
use Rattle.engine_checks.proofs.order.in_order.Goals as goal

pub are_rows-requires : goal.are_rows-requires
are_rows-requires c =
    let s = c.args in
    let held : c.record_in_order.result ≡ true = grind arith in (
      c.requires.unknowns,
      (rows_room s.p s.q s.most s.room (work_of s.equations.now s.basis.now s.table.now s.r) c.requires (sym c.record_in_order.ensures ∙ held)).0,
    )

pub small_rows-requires : goal.small_rows-requires
small_rows-requires c =
    let s = c.args in
    let held : c.record_in_order.result ≡ true = grind arith in
    (rows_room s.p s.q s.most s.room (work_of s.equations.now s.basis.now s.table.now s.r) c.requires (sym c.record_in_order.ensures ∙ held)).1

pub rising-requires : goal.rising-requires
rising-requires c =
    let s = c.args in
    let held : c.record_in_order.result ≡ true = grind arith in
    let room = (rows_room s.p s.q s.most s.room (work_of s.equations.now s.basis.now s.table.now s.r) c.requires (sym c.record_in_order.ensures ∙ held)).1 in
    tested_small s.q s.r.rows s.table.now (grind arith) c.requires.unknowns room

pub returns-then-small_rows : goal.returns-then-small_rows
returns-then-small_rows c = rw parts (grind (arith, common_steps))

pub returns-else-small_rows : goal.returns-else-small_rows
returns-else-small_rows c = rw parts (grind (arith, common_steps))
