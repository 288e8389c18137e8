-- `equation_write::write_row` meets its contract: what was put together is handed out. Assumes nothing.
use mathlib.Core.Bool.{false}
use mathlib.Core.Path.{◌≡◌, sym, ◌∙◌}
use native.Mathlib.Omega.{arith}
use lib.IntN.{nat_abs}
use lib.ListN.{length-take}
use mir.Facts.{to_z-of_z}
use borrow.Author.Rules.{rules}
use borrow.Author.Tests.{ltb-false}
use Rattle.definitions.specs.System.{coef_limit}
use Rattle.definitions.specs.Refusals.{out_of_range}
use Rattle.equation_spec.specs.Writing.{written}
use Rattle.equation_write.specs.CallLaws.{right_out, right_in}
use Rattle.equation_write.proofs.write_row.Goals as goal
use Rattle.equation_write.proofs.write_row.Goals.{Else-out_of_range}

-- the right side is in range
in_range : (f : Else-out_of_range) → out_of_range f.args.right ≡ false
in_range f =
    sym (rw (to_z-of_z f.ranges.right) at f.out_of_range.ensures) ∙ f.if-out_of_range.false

pub returns-then-out_of_range : goal.returns-then-out_of_range
returns-then-out_of_range c =
    right_out c.args.right (written c.args.row.now c.args.right) c.args.out.now
    (sym (rw (to_z-of_z c.ranges.right) at c.out_of_range.ensures) ∙ c.if-out_of_range.true)

pub sides-n-requires : goal.sides-n-requires
sides-n-requires c =
    rw (to_z-of_z c.ranges.right) (
      c.requires.0,
      c.requires.1,
      ltb-false coef_limit (nat_abs c.args.right) (in_range (goal.at.sides-n-requires c).Else-out_of_range),
      search rules,
    )

pub slice_bounds-hand_out-end : goal.slice_bounds-hand_out-end
slice_bounds-hand_out-end c = simp length-take (omega arith)

pub returns : goal.returns
returns c =
    let p = rw (to_z-of_z c.ranges.right) at c.sides-n.ensures.put in
    (rw p.written at c.hand_out.ensures)
    ∙ right_in c.args.right (written c.args.row.now c.args.right) c.args.out.now (in_range (goal.at.returns c).Else-out_of_range)
