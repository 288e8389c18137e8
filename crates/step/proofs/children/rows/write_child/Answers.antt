-- `rows::write_child` meets its contract: the tuple is written, then its component i written over. Assumes nothing.
use mathlib.Core.Path.{◌∙◌, ap}
use Prim.Native.Nat.{ℕ, ◌+◌, ◌*◌}
use native.Mathlib.Omega.{arith}
use lib.ListN.{set}
use Rattle.definitions.specs.Tables.{write_row}
use Rattle.table_rows.specs.Rows.{tuple}
use Rattle.step.proofs.RowLaws.{write_raise}
use Rattle.step.proofs.children.rows.write_child.Goals as goal

pub returns : goal.returns
unfolding write_row
returns c =
    let a = c.args in
    let base : ℕ = a.k * (a.q + 1) in
    ap (λ l. set (set l (base + a.i) (tuple a.t.now a.i + 1)) (base + a.q) a.marks) c.write.ensures
    ∙ ap (λ l. set l (base + a.q) a.marks) (write_raise a.q a.stack.now base (tuple a.t.now) a.i (omega arith))
