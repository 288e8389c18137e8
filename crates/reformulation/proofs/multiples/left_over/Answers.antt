-- `multiples::left_over` meets its contract. The sum is what is left over after the rows passed. Assumes nothing.
use mathlib.Core.Path.{◌∙◌, ap, refl}
use Prim.Native.Nat.{◌+◌}
use native.Mathlib.Nat.{le_antisymm}
use native.Mathlib.Omega.{arith}
use mir.Facts.{to_z-of_z}
use mir.Syntax.{w64}
use lib.IntN.{◌+ℤ◌}
use Rattle.std.proofs.Common.{to_z}
use Rattle.linear.proofs.Integers.{bits_are}
use Rattle.reformulation.specs.Sums.{entry_fits, first_fits, first_sum, next_fits, next_sum, sum_value}
use Rattle.reformulation.proofs.multiples.left_over.Goals as goal

pub overflow_mul-sum : goal.overflow_mul-sum
overflow_mul-sum c = let s = c.requires in first_fits s.0 _ (c.from.ensures ∙ to_z-of_z (entry_fits (s.0.within.row _)))

pub loop-r-init : goal.loop-r-init
loop-r-init c =
    let s = c.requires in
    sum_value s.0 _ 0 (first_sum s.0 _ (c.from.ensures ∙ to_z-of_z (entry_fits (s.0.within.row _))) refl) (omega arith)

pub overflow_mul-sum-in-loop-r : goal.overflow_mul-sum-in-loop-r
overflow_mul-sum-in-loop-r c =
    let s = c.requires in
    let y = c.from-in-loop-r.ensures ∙ to_z-of_z (entry_fits (s.0.within.others _)) in
    let bits = bits_are c.loop-r.auto.sum-fits c.loop-r.invariant in
    (next_fits s.0 _ c.loop-r.r bits c.loop-r-test.true y).0

pub overflow_add-sum-in-loop-r-2 : goal.overflow_add-sum-in-loop-r-2
overflow_add-sum-in-loop-r-2 c =
    let s = c.requires in
    let y = c.from-in-loop-r.ensures ∙ to_z-of_z (entry_fits (s.0.within.others _)) in
    let bits = bits_are c.loop-r.auto.sum-fits c.loop-r.invariant in
    let (product, sum) = next_fits s.0 _ c.loop-r.r bits c.loop-r-test.true y in
    rw (to_z-of_z product) sum

pub loop-r-preserved : goal.loop-r-preserved
loop-r-preserved c =
    let s = c.requires in
    let y = c.from-in-loop-r.ensures ∙ to_z-of_z (entry_fits (s.0.within.others _)) in
    let bits = bits_are c.loop-r.auto.sum-fits c.loop-r.invariant in
    let (product, sum) = next_fits s.0 _ c.loop-r.r bits c.loop-r-test.true y in
    let next = next_sum s.0 _ c.loop-r.r bits c.loop-r-test.true y (ap (λ z. to_z w64 c.loop-r.sum-bits +ℤ z) (to_z-of_z product)) in
    sum_value s.0 _ (c.loop-r.r + 1) next (omega arith)

pub returns : goal.returns
returns c =
    let s = c.requires in
    let bits = bits_are c.loop-r.auto.sum-fits c.loop-r.invariant in
    let sum = sum_value s.0 _ c.loop-r.r bits c.loop-r.auto.r-end in
    rw (le_antisymm c.loop-r.auto.r-end c.loop-r-test.false) at sum
