-- `images::product` meets its contract. The sum so far is the inner product over the places passed. Assumes nothing.
use Prim.Native.Nat.{◌+◌}
use mathlib.Core.Path.{refl}
use native.Mathlib.Omega.{arith}
use Rattle.desk_rows.specs.Images.{next_fits, next_sum, sum_value}
use Rattle.linear.proofs.Integers.{bits_are}
use Rattle.linear.specs.Sums.{sum_to}
use Rattle.linear.specs.Systems.{inner}
use Rattle.desk_rows.proofs.images.product.Goals as goal

pub loop-i-init : goal.loop-i-init
unfolding inner sum_to
loop-i-init c = refl

pub sum_and-sum-requires : goal.sum_and-sum-requires
sum_and-sum-requires c =
    let all = next_fits c.requires c.loop-i.i (bits_are c.loop-i.auto.sum-fits c.loop-i.invariant) c.loop-i-test.true in
    record { sfits = all.0; sfits_2 = all.1 }

pub loop-i-preserved : goal.loop-i-preserved
loop-i-preserved c =
    let bits = next_sum c.requires c.loop-i.i (bits_are c.loop-i.auto.sum-fits c.loop-i.invariant) c.loop-i-test.true c.sum_and-sum.ensures in
    sum_value c.requires (c.loop-i.i + 1) bits (omega arith)
