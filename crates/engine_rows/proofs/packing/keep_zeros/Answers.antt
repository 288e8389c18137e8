-- `packing::keep_zeros` meets its contract. Of the rows passed, those of value 0 have been written. Assumes nothing.
use mathlib.Core.Path.{refl, sym, ◌∙◌}
use native.Mathlib.Nat.{le_antisymm}
use native.Mathlib.Omega.{arith}
use borrow.Author.Rules.{sfits_of}
use lib.IntN.{pos}
use lib.ListN.{get_or}
use mir.Facts.{to_z-of_z}
use mir.Syntax.{w64}
use Rattle.laws.proofs.TableLaws.{row_fits}
use Rattle.engine_rows.specs.Packing.{packed_few, packed_fits, packed_length, packed_more, packed_none, packed_skip}
use Rattle.engine_rows.proofs.packing.keep_zeros.Goals as goal

pub loop-i-init : goal.loop-i-init
loop-i-init c = (refl, packed_none _ _ _ _)

pub loop-i-preserved-then-not-is_zero : goal.loop-i-preserved-then-not-is_zero
loop-i-preserved-then-not-is_zero c =
    let known = to_z-of_z {w = w64} {z = get_or c.args.values.now c.loop-i.i (pos 0)} (sfits_of c.is_zero-arg-1.given) in
    (c.loop-i.invariant.0, packed_skip _ _ _ _ c.loop-i.invariant.1 (rw known at (sym c.is_zero.ensures ∙ c.if-not-is_zero.true)))

pub overflow_mul-i : goal.overflow_mul-i
overflow_mul-i c =
    omega (arith, c.requires.0, row_fits c.args.q c.loop-i.i c.args.n c.loop-i-test.true)

pub overflow_mul-kept : goal.overflow_mul-kept
overflow_mul-kept c =
    let known = to_z-of_z {w = w64} {z = get_or c.args.values.now c.loop-i.i (pos 0)} (sfits_of c.is_zero-arg-1.given) in
    let stays = rw known at (sym c.is_zero.ensures ∙ c.if-not-is_zero.false) in
    omega (arith, c.loop-i.invariant.0, packed_fits _ _ _ _ c.loop-i.invariant.1 c.args.n c.loop-i-test.true stays c.requires.2)

pub append_row-requires : goal.append_row-requires
append_row-requires c =
    let known = to_z-of_z {w = w64} {z = get_or c.args.values.now c.loop-i.i (pos 0)} (sfits_of c.is_zero-arg-1.given) in
    let stays = rw known at (sym c.is_zero.ensures ∙ c.if-not-is_zero.false) in (
      omega (arith, c.requires.0, row_fits c.args.q c.loop-i.i c.args.n c.loop-i-test.true),
      packed_fits _ _ _ _ c.loop-i.invariant.1 c.args.n c.loop-i-test.true stays c.requires.2,
    )

pub overflow_add-kept : goal.overflow_add-kept
overflow_add-kept c =
    omega (arith, packed_few _ _ _ _ c.loop-i.invariant.1)

pub loop-i-preserved : goal.loop-i-preserved
loop-i-preserved c =
    let known = to_z-of_z {w = w64} {z = get_or c.args.values.now c.loop-i.i (pos 0)} (sfits_of c.is_zero-arg-1.given) in
    let stays = rw known at (sym c.is_zero.ensures ∙ c.if-not-is_zero.false) in
    let k = packed_more _ _ _ _ c.loop-i.invariant.1 stays c.append_row.ensures in
    (packed_length _ _ _ _ k, k)

pub returns : goal.returns
returns c = let k = rw (le_antisymm c.loop-i.auto.i-end c.loop-i-test.false) at c.loop-i.invariant.1 in (k.rows, k.counted)
