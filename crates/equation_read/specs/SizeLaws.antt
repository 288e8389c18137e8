-- The sizes of totals and multipliers, in 64 bits. Assumes nothing.
use Rattle.std.specs.Prelude.{ℕ, ◌≤◌, ◌≡◌, refl, ℤ, pos, nat_abs, ◌*ℤ◌}
use mathlib.Core.Bool.{true, false}
use Rattle.std.proofs.Common.{mul-le-mul, arith, ltb-false}
use Rattle.linear.proofs.Integers.{nat_abs_*ℤ}
use Rattle.definitions.specs.Refusals.{out_of_range}
use Rattle.equation_read.specs.Totals.{bounded}

pub product_small : (z : ℤ) (n : ℕ) → nat_abs z ≤ 10000 → n ≤ 99999 → nat_abs (z *ℤ pos n) ≤ 1000000000
product_small z n l m = omega (arith, nat_abs_*ℤ z (pos n), mul-le-mul l m)

pub bounded_small : (z : ℤ) → nat_abs (bounded z) ≤ 10000
bounded_small z = go (out_of_range z) refl
  where
    go : (d : mathlib.Core.Bool.Bool) → out_of_range z ≡ d → nat_abs (mathlib.Core.Bool.cond d (pos 0) z) ≤ 10000
    go true e = omega arith
    go false e = ltb-false 10000 (nat_abs z) e
