-- `marks::mark_by` meets its contract. Assumes nothing.
use native.Mathlib.Omega.{arith}
use Rattle.laws.proofs.TableLaws.{row_fits}
use Rattle.engine_rows.specs.Marking.{mark_small, marked_by, value_read}
use mathlib.Core.Path.{◌≡◌, ap}
use mathlib.Core.Bool.{not, true}
use borrow.Author.Rules.{rules}
use Rattle.engine_rows.proofs.marks.mark_by.Goals as goal

pub returns-then-n-m : goal.returns-then-n-m
returns-then-n-m c = λ h. absurd (omega arith)

pub returns-then-not-opposed : goal.returns-then-not-opposed
returns-then-not-opposed c = λ h. absurd (omega arith)

pub overflow_mul-m : goal.overflow_mul-m
overflow_mul-m c =
    omega (arith, c.requires.0.whole, row_fits c.args.q c.args.m c.args.n c.if-n-m.false)

pub overflow_mul-i : goal.overflow_mul-i
overflow_mul-i c =
    omega (arith, c.requires.0.whole, row_fits c.args.q c.args.i c.args.n c.requires.2)

pub below-requires : goal.below-requires
below-requires c = (
  omega (arith, c.requires.0.whole, row_fits c.args.q c.args.m c.args.n c.if-n-m.false),
  omega (arith, c.requires.0.whole, row_fits c.args.q c.args.i c.args.n c.requires.2),
)

pub size-requires : goal.size-requires
size-requires c =
    rw (value_read c.requires.1 c.args.i c.requires.2) (c.requires.1.each c.args.i c.requires.2)

pub size-requires-2 : goal.size-requires-2
size-requires-2 c =
    let l = c.if-n-m.false in
    rw (value_read c.requires.1 c.args.m l) (c.requires.1.each c.args.m l)

pub overflow_add-result : goal.overflow_add-result
overflow_add-result c =
    omega (arith, mark_small c.requires.1 c.requires.2 c.if-n-m.false c.size.ensures c.size-2.ensures)

pub returns : goal.returns
returns c =
    let under : c.below.result ≡ true = search rules in
    λ h. marked_by c.requires.1 c.requires.2 c.if-n-m.false c.size.ensures c.size-2.ensures
    c.args.q c.args.table.now c.opposed.ensures (ap not c.if-not-opposed.false) c.below.ensures (ap not under)
