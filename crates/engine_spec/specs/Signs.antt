-- One equation more. A list of nonzero solutions of the equations so far, one at or below each such solution inside the cap, and in which the sum of any two
-- rows whose values under the next equation have opposite signs lies, where it is inside the cap, at or above a row whose value lies between 0 and that of the
-- sum: every solution of the equations so far that is inside the cap is then a sum of rows whose values have its own sign or are 0. Assumes nothing.
use Rattle.std.specs.Prelude.{◌≡◌, ℕ, ◌+◌, ◌*◌, ◌-◌, ◌≤◌, ◌<◌, ℤ}
use Rattle.std.proofs.Common.{arith}
use Rattle.linear.specs.Combinations.{SumOf, combined_raise}
use Rattle.linear.proofs.Combinations.{rest_solves}
use Rattle.linear.specs.Differences.{down, up}
use Rattle.linear.specs.Systems.{Solution, value}
use Rattle.linear.specs.TupleLaws.{total_sum}
use Rattle.linear.proofs.TupleLaws.{term_le_total}
use Rattle.linear.specs.Tuples.{AtOrBelow, Nonzero, raise, total, unit}
use Rattle.linear.proofs.Loops.{Solutions}
use Rattle.engine_spec.specs.Caps.{Inside, inside_below}

-- y lies between 0 and x: it has the sign of x or is 0, and is no larger than x
pub record Within (y x : ℤ) : Type 0 where
  pub ups : up y ≤ up x
  pub downs : down y ≤ down x

-- the sum of two tuples
abbrev pub plus : (ℕ → ℕ) → (ℕ → ℕ) → ℕ → ℕ
plus x y j = x j + y j

-- some row is at or below z and has a value between 0 and that of z; z itself may be such a row
pub record Reduced (q : ℕ) (c : ℕ → ℤ) (n : ℕ) (row : ℕ → ℕ → ℕ) (z : ℕ → ℕ) : Type 0 where
  pub by : ℕ
  pub low : by < n
  pub under : AtOrBelow q (row by) z
  pub within : Within (value c q (row by)) (value c q z)

-- the sum of any two rows with values of opposite signs is so reduced, where it is inside the cap
abbrev pub Closed : (cap q : ℕ) (c : ℕ → ℤ) (n : ℕ) (row : ℕ → ℕ → ℕ) → Type 0
Closed cap q c n row =
    (h k : ℕ) → h < n → k < n → 0 < up (value c q (row h)) → 0 < down (value c q (row k)) → Inside cap q (plus (row h) (row k))
    → Reduced q c n row (plus (row h) (row k))

-- the positive parts of the values of the rows, each taken so many times, added up
abbrev pub ups_of : (q : ℕ) (c : ℕ → ℤ) (n : ℕ) (times : ℕ → ℕ) (row : ℕ → ℕ → ℕ) → ℕ
ups_of q c n times row = total (λ i. times i * up (value c q (row i))) n

abbrev pub downs_of : (q : ℕ) (c : ℕ → ℤ) (n : ℕ) (times : ℕ → ℕ) (row : ℕ → ℕ → ℕ) → ℕ
downs_of q c n times row = total (λ i. times i * down (value c q (row i))) n

-- x is a sum of rows in which no value works against another: the positive parts add up to that of x, so that all values have the sign of x or
-- are 0 (`consistent_rows`)
pub record Consistent (q : ℕ) (c : ℕ → ℤ) (n : ℕ) (row : ℕ → ℕ → ℕ) (x : ℕ → ℕ) : Type 0 where
  pub sum : SumOf q n row x
  pub ups : ups_of q c n sum.times row ≡ up (value c q x)
  pub downs : downs_of q c n sum.times row ≡ down (value c q x)

-- ---- two rows of a sum put into another form

module _ (q n : ℕ) (row : ℕ → ℕ → ℕ) where
  -- the sum without one copy of row h and one of row k
  abbrev pub without : (ℕ → ℕ) → ℕ → ℕ → ℕ → ℕ
  without times h k i = times i - unit h i - unit k i

-- ---- the theorem

module _ (cap p q : ℕ) (a : ℕ → ℕ → ℤ) (c : ℕ → ℤ) (n : ℕ) (row : ℕ → ℕ → ℕ) (solves : Solutions p q a n row) (some : (i : ℕ) → i < n → Nonzero q (row i))
    (found : (t : ℕ → ℕ) → Solution p q a t → Nonzero q t → Inside cap q t → (i : ℕ) × (i < n) × AtOrBelow q (row i) t) (closed : Closed cap q c n row) where
  abbrev pub v : (ℕ → ℕ) → ℤ
  v = value c q

  -- every smaller solution inside the cap has its sum
  abbrev pub Smaller : ℕ → Type 0
  Smaller d = (y : ℕ → ℕ) → Solution p q a y → Inside cap q y → total y q < d → Consistent q c n row y

  module _ (d : ℕ) (smaller : Smaller d) (x : ℕ → ℕ) (sx : Solution p q a x) (inside : Inside cap q x) (size : total x q ≤ d) where
    module _ (k : ℕ) (low : k < n) (under : AtOrBelow q (row k) x) where
      abbrev pub y : ℕ → ℕ
      y j = x j - row k j

      pub adds : (j : ℕ) → j < q → x j ≡ row k j + y j
      adds j jq = omega (arith, under j jq)

      -- what is left of x without row k has its sum
      pub less_row : Consistent q c n row y
      less_row =
          let (z, zq, more) = some k low in
          smaller y (rest_solves p q a (row k) x under (solves k low) sx) (inside_below cap q y x (λ j jq. omega arith) inside)
          (omega (arith, total_sum x (row k) y q adds, term_le_total (row k) q z zq))

      -- and with the row it is one of x
      abbrev pub with_row : SumOf q n row x
      with_row =
          record {
            times = raise less_row.sum.times k;
            adds_up = λ j jq. omega (arith, combined_raise n less_row.sum.times row k j low, less_row.sum.adds_up j jq, adds j jq);
          }
