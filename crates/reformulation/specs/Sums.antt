-- The sums of multiples: what the code is sure of, and that all that it adds up fits 64 bits. Assumes nothing.
use Rattle.std.specs.Prelude.{◌≡◌, List, ℤ, pos, nat_abs, ◌+ℤ◌, ◌*ℤ◌, get_or, length}
use Rattle.std.proofs.Common.{◌∙◌, mul-le-mul, to_z-of_z, SFits, of_z, to_z}
use Rattle.std.proofs.Math.Path.{ap}
use Prim.Native.Nat.{ℕ, zero, suc, ◌+◌, ◌*◌, ◌≤◌, ◌<◌}
use Rattle.std.proofs.Math.Numerals.{add-one}
use native.Mathlib.Omega.{arith}
use Rattle.std.specs.Int.{w32, w64}
use Rattle.linear.proofs.Integers.{nat_abs_+ℤ, nat_abs_*ℤ, sfits_nat_abs}
use Rattle.definitions.specs.System.{coef_limit}
use Rattle.laws.proofs.TableLaws.{row_fits}
use Rattle.reformulation_spec.specs.Reformulation.{left_over, most_multiple, row_of}

-- the numbers of a table from a place on
abbrev pub line_at : List ℤ → ℕ → ℕ → ℤ
line_at table from i = get_or table (from + i) (pos 0)

-- multiples and rows within their limits, whatever place is read
pub record Within (by rows table : List ℤ) : Type 0 where
  pub multiples : (i : ℕ) → nat_abs (get_or by i (pos 0)) ≤ most_multiple
  pub row : (i : ℕ) → nat_abs (get_or rows i (pos 0)) ≤ coef_limit
  pub others : (i : ℕ) → nat_abs (get_or table i (pos 0)) ≤ coef_limit

-- a row of w numbers from place `base` and its multiples from place `from`
pub record SmallSums (columns w n : ℕ) (by : List ℤ) (from : ℕ) (rows : List ℤ) (base : ℕ) (table : List ℤ) : Type 0 where
  pub within : Within by rows table
  pub few : n ≤ 64
  pub inside : columns ≤ w
  pub by_long : from + (1 + n) ≤ length by
  pub row_long : base + w ≤ length rows
  pub long : n * w ≤ length table

-- `count` rows, from row `first` on, and a row of multiples for each
pub record Lines (columns w n count first : ℕ) (by rows table : List ℤ) : Type 0 where
  pub within : Within by rows table
  pub few : n ≤ 64
  pub inside : columns ≤ w
  pub start : first + count ≤ 64
  pub by_long : count * (1 + n) ≤ length by
  pub rows_long : (first + count) * w ≤ length rows
  pub long : n * w ≤ length table

-- one of them
pub line_of : {columns w n count first : ℕ} {by rows table : List ℤ} → Lines columns w n count first by rows table → (i : ℕ) → i < count
    → SmallSums columns w n by (i * (1 + n)) rows ((first + i) * w) table
line_of {w} {n} {count} {first} l i h =
    record {
      within = l.within;
      few = l.few;
      inside = l.inside;
      by_long = omega (arith, row_fits (1 + n) i count h, l.by_long);
      row_long = omega (arith, row_fits w (first + i) (first + count) (omega arith), l.rows_long);
      long = l.long;
    }

-- ---- one column

-- the code's `x * y` and `sum + x * y`, each number read from its bits
abbrev pub multiplied : ℤ → ℤ → ℤ
multiplied x y = to_z w64 (of_z w64 x) *ℤ to_z w64 (of_z w64 y)

abbrev pub summed : ℕ → ℤ → ℤ → ℤ
summed sum x y = to_z w64 sum +ℤ multiplied x y

product_small : (x y : ℤ) → nat_abs x ≤ most_multiple → nat_abs y ≤ coef_limit → nat_abs (x *ℤ y) ≤ most_multiple * coef_limit
product_small x y a b = omega (arith, nat_abs_*ℤ x y, mul-le-mul a b)

product_is : (x y : ℤ) → nat_abs x ≤ most_multiple → nat_abs y ≤ coef_limit → multiplied x y ≡ x *ℤ y
product_is x y a b =
    let f : SFits w64 x = sfits_nat_abs (omega (arith, a)) in let g : SFits w64 y = sfits_nat_abs (omega (arith, b)) in rw (to_z-of_z f, to_z-of_z g)

product_fits : (x y : ℤ) → nat_abs x ≤ most_multiple → nat_abs y ≤ coef_limit → SFits w64 (multiplied x y)
product_fits x y a b = rw (product_is x y a b) (sfits_nat_abs (omega (arith, product_small x y a b)))

pub entry_fits : {x : ℤ} → nat_abs x ≤ coef_limit → SFits w32 x
entry_fits h = sfits_nat_abs (omega (arith, h))

module _ {columns w n from base : ℕ} {by rows table : List ℤ} (s : SmallSums columns w n by from rows base table) (j : ℕ) where
  -- what is left over after r rows
  abbrev left : ℕ → ℤ
  left r = left_over r (line_at by from) (line_at rows base) (row_of w table) j

  left_small : (r : ℕ) → nat_abs (left r) ≤ suc r * (most_multiple * coef_limit)
  unfolding left_over
  left_small zero = omega (arith, product_small (line_at by from 0) (line_at rows base j) (s.within.multiples (from + 0)) (s.within.row (base + j)))
  left_small (suc r) =
      omega (
        arith,
        left_small r,
        nat_abs_+ℤ (left r) (line_at by from (suc r) *ℤ row_of w table r j),
        product_small (line_at by from (suc r)) (row_of w table r j) (s.within.multiples (from + suc r)) (s.within.others (r * w + j)),
      )

  left_fits : (r : ℕ) → r ≤ n → SFits w64 (left r)
  left_fits r l = sfits_nat_abs (omega (arith, left_small r, s.few))

  -- the row by itself
  module _ {y : ℤ} (e : y ≡ get_or rows (base + j) (pos 0)) where
    pub first_fits : SFits w64 (multiplied (get_or by from (pos 0)) y)
    first_fits = rw e (product_fits (get_or by from (pos 0)) (line_at rows base j) (s.within.multiples from) (s.within.row (base + j)))

    pub first_sum : {z : ℤ} → z ≡ multiplied (get_or by from (pos 0)) y → of_z w64 z ≡ of_z w64 (left 0)
    unfolding left_over
    first_sum {z} h =
        let place : from + 0 ≡ from = omega arith in
        let product : z ≡ left 0 =
        rw (h, e, place) (product_is (get_or by from (pos 0)) (line_at rows base j) (s.within.multiples from) (s.within.row (base + j))) in
        ap (of_z w64) product

  -- sum is the bits of what is left over after r rows
  module _ (r : ℕ) {sum : ℕ} (e : sum ≡ of_z w64 (left r)) where
    pub sum_value : r ≤ n → to_z w64 sum ≡ left r
    sum_value l = rw e (to_z-of_z (left_fits r l))

    -- and one row more
    module _ (l : r < n) {y : ℤ} (f : y ≡ row_of w table r j) where
      abbrev x : ℤ
      x = get_or by (from + 1 + r) (pos 0)

      summed_is : summed sum x y ≡ left (r + 1)
      unfolding left_over
      summed_is =
          let place : from + 1 + r ≡ from + suc r = omega arith in
          rw (
            add-one r,
            f,
            place,
            sum_value (omega arith),
            product_is (line_at by from (suc r)) (row_of w table r j) (s.within.multiples (from + suc r)) (s.within.others (r * w + j)),
          )

      pub next_fits : SFits w64 (multiplied x y) × SFits w64 (summed sum x y)
      next_fits = (
        rw f (product_fits x (row_of w table r j) (s.within.multiples (from + 1 + r)) (s.within.others (r * w + j))),
        rw summed_is (left_fits (r + 1) (omega arith)),
      )

      pub next_sum : {z : ℤ} → z ≡ summed sum x y → of_z w64 z ≡ of_z w64 (left (r + 1))
      next_sum h = ap (of_z w64) (h ∙ summed_is)

  -- all rows
  pub whole_fits : SFits w64 (left n)
  whole_fits = left_fits n (omega arith)

-- how often the row itself is taken
pub line_first : (by : List ℤ) (from : ℕ) → get_or by from (pos 0) ≡ line_at by from 0
line_first by from = let place : from + 0 ≡ from = omega arith in rw place
