-- `packing::drop_fresh` meets its contract. Of the rows passed, those with 0 at place f have been kept; those ahead are as they were. Assumes nothing.
use mathlib.Core.Path.{refl, sym, ◌∙◌}
use native.Mathlib.Nat.{le_antisymm}
use native.Mathlib.Omega.{arith}
use Rattle.laws.proofs.TableLaws.{row_fits}
use borrow.Author.Tests.{eq-eqb, ne_eqb}
use Rattle.laws.proofs.TableLaws.{place_fits}
use Rattle.engine_rows.specs.Keeping.{packed_ahead, packed_copied}
use Rattle.engine_rows.specs.Packing.{packed_few, packed_length, packed_none, packed_skip}
use Rattle.engine_rows.proofs.packing.drop_fresh.Goals as goal

pub loop-i-init : goal.loop-i-init
loop-i-init c = (refl, packed_none _ _ _ _)

pub overflow_mul-base : goal.overflow_mul-base
overflow_mul-base c =
    omega (arith, c.requires.0, row_fits c.args.q c.loop-i.i c.args.m c.loop-i-test.true)

pub overflow_add-base : goal.overflow_add-base
overflow_add-base c =
    omega (arith, c.requires.0, c.requires.1, row_fits c.args.q c.loop-i.i c.args.m c.loop-i-test.true)

pub offset_bounds-basis-base : goal.offset_bounds-basis-base
offset_bounds-basis-base c =
    omega (arith, c.requires.0, c.requires.1, row_fits c.args.q c.loop-i.i c.args.m c.loop-i-test.true)

pub bounds-basis-base : goal.bounds-basis-base
bounds-basis-base c =
    omega (arith, c.loop-i.invariant.0, c.requires.0, c.requires.1, row_fits c.args.q c.loop-i.i c.args.m c.loop-i-test.true)

pub loop-i-preserved-then-basis-base-ne0 : goal.loop-i-preserved-then-basis-base-ne0
loop-i-preserved-then-basis-base-ne0 c =
    let e = ne_eqb _ 0 (rw (packed_ahead _ _ _ c.loop-i.invariant.1 c.args.f c.requires.1) at c.if-basis-base-ne0.true) in
    (c.loop-i.invariant.0, packed_skip _ _ _ _ c.loop-i.invariant.1 e)

pub overflow_mul-kept : goal.overflow_mul-kept
overflow_mul-kept c =
    let l = c.loop-i-test.true in
    omega (
      arith,
      place_fits c.args.q c.loop-i.i c.args.m c.loop-i.kept c.args.basis.now l c.requires.0 (packed_few _ _ _ _ c.loop-i.invariant.1),
    )

pub copy-requires : goal.copy-requires
copy-requires c =
    let l = c.loop-i-test.true in
    place_fits c.args.q c.loop-i.i c.args.m c.loop-i.kept c.loop-i.basis l (omega (arith, c.loop-i.invariant.0, c.requires.0))
    (packed_few _ _ _ _ c.loop-i.invariant.1)

pub overflow_add-kept : goal.overflow_add-kept
overflow_add-kept c =
    omega (arith, packed_few _ _ _ _ c.loop-i.invariant.1)

pub loop-i-preserved : goal.loop-i-preserved
loop-i-preserved c =
    let e = eq-eqb _ 0 (sym (packed_ahead _ _ _ c.loop-i.invariant.1 c.args.f c.requires.1) ∙ c.if-basis-base-ne0.false) in
    let k = packed_copied _ _ _ c.loop-i.invariant.1 e c.copy.ensures in
    (packed_length _ _ _ _ k, k)

pub returns : goal.returns
returns c = let k = rw (le_antisymm c.loop-i.auto.i-end c.loop-i-test.false) at c.loop-i.invariant.1 in (k.rows, k.counted)
