-- `values::value_at` meets its contract. The sum is that of the products passed. Assumes nothing.
use Rattle.linear.proofs.Integers.{bits_are}
use Rattle.linear.specs.Systems.{inner}
use Rattle.linear.specs.Sums.{sum_to}
use Rattle.table_rows.proofs.Small.{product_added, product_fits, sum_read, value_whole}
use mathlib.Core.Path.{refl}
use Prim.Native.Nat.{◌+◌}
use native.Mathlib.Omega.{arith}
use Rattle.table_rows.proofs.values.value_at.Goals as goal

pub loop-j-init : goal.loop-j-init
unfolding inner sum_to
loop-j-init c = refl

pub sum_and-sum-requires : goal.sum_and-sum-requires
sum_and-sum-requires c =
    let all = product_fits c.requires.0 c.requires.1 c.loop-j.j (bits_are c.loop-j.auto.sum-fits c.loop-j.invariant) c.loop-j-test.true c.wide.ensures
    c.natural.ensures in
    record { sfits = all.0; sfits_2 = all.1 }

pub loop-j-preserved : goal.loop-j-preserved
loop-j-preserved c =
    let bits = product_added c.requires.0 c.requires.1 c.loop-j.j (bits_are c.loop-j.auto.sum-fits c.loop-j.invariant) c.loop-j-test.true c.wide.ensures
    c.natural.ensures
    c.sum_and-sum.ensures in
    sum_read c.requires.0 c.requires.1 (c.loop-j.j + 1) bits (omega arith)

pub returns : goal.returns
returns c = value_whole c.requires.0 c.requires.1 c.loop-j.j (bits_are c.loop-j.auto.sum-fits c.loop-j.invariant) c.loop-j.auto.j-end c.loop-j-test.false
