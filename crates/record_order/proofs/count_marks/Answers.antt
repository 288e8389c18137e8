-- `record_order::count_marks` meets its contract: the marks that are left and those counted are all marks. Assumes nothing.
use mathlib.Core.Path.{◌≡◌}
use Prim.Native.Nat.{ℕ, ◌+◌, ◌*◌, ◌-◌, ◌%◌, ◌^◌, ◌<◌}
use native.Mathlib.Omega.{arith}
use lib.Count.{count_trailing_zeros}
use lib.Dec.{T}
use Rattle.linear.proofs.TestLaws.{count_le, count_none}
use Rattle.linear.specs.Tests.{count_to}
use Rattle.definitions.specs.Tables.{frozen}
use Rattle.laws.proofs.MarkLaws.{count_frozen_add, frozen_gone, frozen_le, frozen_none, lowest_frozen, lowest_le, lowest_less, shift_one}
use Rattle.record_order.proofs.count_marks.Goals as goal
use Rattle.record_order.proofs.count_marks.Goals.{In-loop-rest}

-- the lowest of the marks that are left
module _ (rest : ℕ) (some : 0 < rest) (fits : rest < 2 ^ 32) where
  abbrev i : ℕ
  i = count_trailing_zeros 32 rest

  low : (i < 32) × T (frozen rest i) × ((j : ℕ) → j < i → ¬ (T (frozen rest j)))
  low = lowest_frozen 32 rest some fits

  one_less : count_to 32 (frozen rest) ≡ count_to 32 (frozen (rest - (1 * 2 ^ i) % 4294967296)) + 1
  one_less =
      let e : rest - 2 ^ i + 2 ^ i ≡ rest = omega (arith, frozen_le rest i low.1) in
      rw (shift_one i low.0) (rw e at (count_frozen_add (rest - 2 ^ i) i 32 low.0 (frozen_gone rest i low.1)))

some : (l : In-loop-rest) → 0 < l.loop-rest.rest
some l = omega (arith, l.loop-rest-test.true)

pub loop-rest-init : goal.loop-rest-init
loop-rest-init c = (c.ranges.marks.fits, omega arith)

pub overflow_shl-bit : goal.overflow_shl-bit
overflow_shl-bit c = (low c.loop-rest.rest (some c) c.loop-rest.invariant.0).0

pub overflow_sub-rest : goal.overflow_sub-rest
overflow_sub-rest c = lowest_le c.loop-rest.rest (some c) c.loop-rest.invariant.0

pub overflow_add-n : goal.overflow_add-n
overflow_add-n c = omega (arith, c.loop-rest.invariant.1, count_le (frozen c.args.marks) 32)

pub loop-rest-smaller : goal.loop-rest-smaller
loop-rest-smaller c = lowest_less c.loop-rest.rest (some c) c.loop-rest.invariant.0

pub loop-rest-preserved : goal.loop-rest-preserved
loop-rest-preserved c =
    (omega (arith, c.loop-rest.invariant.0), omega (arith, c.loop-rest.invariant.1, one_less c.loop-rest.rest (some c) c.loop-rest.invariant.0))

pub returns : goal.returns
returns c =
    let none : c.loop-rest.rest ≡ 0 = omega (arith, c.loop-rest-test.false) in
    omega (arith, rw none at c.loop-rest.invariant.1, count_none (frozen 0) 32 frozen_none)
