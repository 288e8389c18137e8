-- `packing::count_where` meets its contract: the places passed are counted. Assumes nothing.
use Rattle.std.proofs.Common.{refl, sym, ◌∙◌, arith}
use native.Mathlib.Nat.{le_antisymm}
use Rattle.linear.specs.Tests.{count_to}
use Rattle.engine_rows.specs.Keeping.{counted_more, counted_same}
use Rattle.engine_rows.proofs.packing.count_where.Goals as goal
use Rattle.engine_rows.proofs.packing.count_where.Goals.{then-test, else-test}

pub loop-i-init : goal.loop-i-init
unfolding count_to
loop-i-init g c = (omega arith, λ f h. refl)

pub loop-i-preserved : goal.loop-i-preserved
loop-i-preserved g c =
    elim c.if-test.branch [
      | then-test w ↦ (
        omega (arith, w.count-is, c.loop-i.invariant.0),
        λ f h. rw w.count-is (counted_more f c.loop-i.i (c.loop-i.invariant.1 f h)
            (sym (h c.loop-i.i c.test.result c.loop-i-test.true c.test.ensures) ∙ w.if-test.true)),
      )
      | else-test w ↦ (
        omega (arith, w.count-is, c.loop-i.invariant.0),
        λ f h. rw w.count-is (counted_same f c.loop-i.i (c.loop-i.invariant.1 f h)
            (sym (h c.loop-i.i c.test.result c.loop-i-test.true c.test.ensures) ∙ w.if-test.false)),
      )
    ]

pub returns : goal.returns
returns g c = λ f h. rw (le_antisymm c.loop-i.auto.i-end c.loop-i-test.false) at (c.loop-i.invariant.1 f h)
