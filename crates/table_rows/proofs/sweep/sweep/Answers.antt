-- `sweep::sweep` meets its contract. Of the rows passed those that stay stand one behind the other. Assumes nothing.
use Rattle.table_rows.proofs.Keeping.{kept_none, kept_length, kept_few, kept_skip, kept_copied, kept_test}
use Rattle.laws.proofs.TableLaws.{place_fits}
use native.Mathlib.Nat.{le_antisymm}
use mathlib.Core.Path.{refl, sym, ◌∙◌}
use native.Mathlib.Omega.{arith}
use Rattle.table_rows.proofs.sweep.sweep.Goals as goal
use Rattle.table_rows.proofs.sweep.sweep.Goals.{then-stays, else-stays}

pub loop-i-init : goal.loop-i-init
loop-i-init c = (refl, kept_none _ _ _)

pub stays-requires : goal.stays-requires
stays-requires c = (omega (arith, c.loop-i.invariant.0, c.requires), kept_few _ _ _ c.loop-i.invariant.1, c.loop-i-test.true)

pub overflow_mul-i : goal.overflow_mul-i
overflow_mul-i c = omega (
  arith,
  place_fits c.args.q c.loop-i.i c.args.n c.loop-i.kept c.args.table.now c.loop-i-test.true c.requires
      (kept_few _ _ _ c.loop-i.invariant.1),
)

pub overflow_mul-kept : goal.overflow_mul-kept
overflow_mul-kept c = omega (
  arith,
  place_fits c.args.q c.loop-i.i c.args.n c.loop-i.kept c.args.table.now c.loop-i-test.true c.requires
      (kept_few _ _ _ c.loop-i.invariant.1),
)

pub copy-requires : goal.copy-requires
copy-requires c = place_fits c.args.q c.loop-i.i c.args.n c.loop-i.kept c.loop-i.table c.loop-i-test.true
    (omega (arith, c.loop-i.invariant.0, c.requires)) (kept_few _ _ _ c.loop-i.invariant.1)

pub overflow_add-kept : goal.overflow_add-kept
overflow_add-kept c = omega (arith, kept_few _ _ _ c.loop-i.invariant.1)

pub loop-i-preserved : goal.loop-i-preserved
loop-i-preserved c =
    let test = kept_test c.args.q c.args.n c.args.table.now c.requires c.loop-i-test.true c.loop-i.invariant.1 in
    elim c.if-stays.branch [
      | then-stays w ↦
          let k = kept_copied _ _ _ c.loop-i.invariant.1 (sym test ∙ sym c.stays.ensures ∙ w.if-stays.true) w.copy.ensures in
          rw (w.table-is, w.kept-is) (kept_length _ _ _ k, k)
      | else-stays w ↦
          rw (w.table-is, w.kept-is) (c.loop-i.invariant.0, kept_skip _ _ _ c.loop-i.invariant.1 (sym test ∙ sym c.stays.ensures ∙ w.if-stays.false))
    ]

pub returns : goal.returns
returns c = rw (le_antisymm c.loop-i.auto.i-end c.loop-i-test.false) at c.loop-i.invariant.1
