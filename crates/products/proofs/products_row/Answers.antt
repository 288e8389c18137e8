-- `products_row` meets its contract. The row holds what the components passed make of it, and their sum is kept. Assumes nothing.
use Rattle.std.proofs.Common.{◌+◌, refl, arith}
use Rattle.linear.proofs.TupleLaws.{total_more}
use Rattle.linear.specs.Tuples.{total}
use Rattle.definitions.specs.Tables.{at}
use Rattle.products.specs.Totals.{total_room}
use Rattle.products.specs.Turns.{written_again, written_same, zeros_summed}
use Rattle.products.proofs.products_row.Goals as goal

pub loop-i-init : goal.loop-i-init
unfolding total
loop-i-init c = (written_same (zeros_summed c.args.gram.now (at c.args.stack.now (c.args.q + 1) c.args.k) c.requires.4), refl)

pub overflow_add-sum-in-loop-i-2 : goal.overflow_add-sum-in-loop-i-2
overflow_add-sum-in-loop-i-2 c =
    let x = at c.args.stack.now (c.args.q + 1) c.args.k in
    omega (
      arith,
      total_more x c.loop-i.i c.loop-i.invariant.1,
      total_room x (c.loop-i.i + 1) (omega (arith, c.loop-i-test.true, c.requires.0.unknowns))
          (λ i u. c.requires.1.small i (omega (arith, c.loop-i-test.true))),
    )

pub loop-i-preserved : goal.loop-i-preserved
loop-i-preserved c =
    (written_again c.loop-i.invariant.0 c.add_component.ensures, total_more (at c.args.stack.now (c.args.q + 1) c.args.k) c.loop-i.i c.loop-i.invariant.1)
