-- `reasons::left_side` meets its contract. The sum so far is that over the unknowns passed. Assumes nothing.
use mathlib.Core.Path.{refl, ◌∙◌}
use Prim.Native.Nat.{◌+◌}
use native.Mathlib.Nat.{le_antisymm}
use mir.Facts.{to_z-of_z}
use native.Mathlib.Omega.{arith}
use Rattle.linear.proofs.Integers.{bits_are}
use Rattle.linear.specs.Sums.{sum_to}
use Rattle.linear.specs.Systems.{inner, value}
use Rattle.products.specs.Turns.{next_fits, next_sum, sum_value}
use Rattle.reasons.proofs.Amounts.{equation_fits, equation_terms}
use Rattle.reasons.proofs.left_side.Goals as goal

pub loop-j-init : goal.loop-j-init
unfolding inner sum_to
loop-j-init c = refl

pub sum_and-sum-requires : goal.sum_and-sum-requires
sum_and-sum-requires c =
    let s = c.requires in
    let x = c.wide.ensures ∙ to_z-of_z (equation_fits s.0 _) in
    let bits = bits_are c.loop-j.auto.sum-fits c.loop-j.invariant in
    let all = next_fits (equation_terms s.0 s.1) c.loop-j.j bits c.loop-j-test.true x c.natural.ensures in
    record { sfits = all.0; sfits_2 = all.1 }

pub loop-j-preserved : goal.loop-j-preserved
loop-j-preserved c =
    let s = c.requires in
    let x = c.wide.ensures ∙ to_z-of_z (equation_fits s.0 _) in
    let bits = bits_are c.loop-j.auto.sum-fits c.loop-j.invariant in
    let next = next_sum (equation_terms s.0 s.1) c.loop-j.j bits c.loop-j-test.true x c.natural.ensures c.sum_and-sum.ensures in
    sum_value (equation_terms s.0 s.1) (c.loop-j.j + 1) next (omega arith)

pub returns : goal.returns
unfolding value
returns c =
    let s = c.requires in
    let bits = bits_are c.loop-j.auto.sum-fits c.loop-j.invariant in
    let sum = sum_value (equation_terms s.0 s.1) c.loop-j.j bits c.loop-j.auto.j-end in
    rw (le_antisymm c.loop-j.auto.j-end c.loop-j-test.false) at sum
