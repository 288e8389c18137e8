-- `in_profile` meets its contract. The ones of the column are counted so far. Assumes nothing.
use Rattle.std.proofs.Common.{rules}
use borrow.Author.Tests.{ne_eqb, tests}
use Rattle.single_order.specs.Counting.{counted_apart, counted_minus, counted_none, counted_one, counted_other, counted_same, counted_zero}
use Rattle.single_order.proofs.columns.in_profile.Goals as goal
use Rattle.single_order.proofs.columns.in_profile.Goals.{in-1, in-minus1, in-0}

pub loop-i-init : goal.loop-i-init
loop-i-init c = counted_none _

pub returns-in_default : goal.returns-in_default
returns-in_default c = counted_other c.loop-i.invariant _ c.loop-i-test.true (search (rules, tests)) (search (rules, tests)) (search (rules, tests))

pub loop-i-preserved : goal.loop-i-preserved
loop-i-preserved c =
    elim c.match-coefs-i.branch [
      | in-1 w ↦ rw (w.ones-is, w.minus_ones-is) (counted_one c.loop-i.invariant (search (rules, tests)))
      | in-minus1 w ↦ rw (w.ones-is, w.minus_ones-is) (counted_minus c.loop-i.invariant (search (rules, tests)) (search (rules, tests)))
      | in-0 w ↦ rw (w.ones-is, w.minus_ones-is) (counted_zero c.loop-i.invariant (search (rules, tests)) (search (rules, tests)) (search (rules, tests)))
    ]

pub returns-then-ones-minus_ones : goal.returns-then-ones-minus_ones
returns-then-ones-minus_ones c = counted_same c.loop-i.invariant _ c.loop-i.auto.i-end c.loop-i-test.false c.if-ones-minus_ones.true

pub returns-else-ones-minus_ones : goal.returns-else-ones-minus_ones
returns-else-ones-minus_ones c =
    let e = c.if-ones-minus_ones.false in rw (ne_eqb _ _ e) (counted_apart c.loop-i.invariant _ c.loop-i.auto.i-end c.loop-i-test.false e)
