-- `rows::write` meets its contract: the tuple, then the two numbers of the marks. Assumes nothing.
use Prim.Native.Nat.{ℕ, ◌+◌, ◌*◌, ◌/◌, ◌%◌}
use lib.ListN.{length, length-set, set}
use mathlib.Core.Path.{◌∙◌, ap}
use native.Mathlib.Omega.{arith}
use Rattle.desk_spec.specs.Desks.{word}
use Rattle.desk_rows.specs.Rows.{row_numbers}
use Rattle.laws.proofs.TableLaws.{write_length}
use Rattle.table_rows.specs.Rows.{tuple}
use Rattle.desk_rows.proofs.rows.write.Goals as goal

pub bounds-stack-base-2 : goal.bounds-stack-base-2
bounds-stack-base-2 c =
    let a = c.args in
    let long = ap length c.write.ensures ∙ write_length (tuple a.t.now) a.stack.now (a.k * (a.q + 2)) a.q in
    rw length-set (omega (arith, long, c.requires.2))

pub returns : goal.returns
returns c =
    let a = c.args in
    let base : ℕ = a.k * (a.q + 2) in
    rw (c.low.ensures, c.high.ensures)
    (ap (λ t. set (set t (base + a.q) (a.marks % word)) (base + (a.q + 1)) (a.marks / word)) c.write.ensures
    ∙ row_numbers a.q a.stack.now base (tuple a.t.now) a.marks)
