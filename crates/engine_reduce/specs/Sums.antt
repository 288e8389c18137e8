-- The test of a sum as code makes it: with the values of the rows in a table of their own. Assumes nothing.
use Rattle.std.specs.Prelude.{◌≡◌, Bool, true, false, not, ◌&&◌, List, ℕ, ◌+◌, ◌≤◌, ◌<◌, ℤ, pos, get_or, length, Option, MatchOption}
use Rattle.std.proofs.Math.Path.{refl}
use Rattle.std.proofs.Common.{sym, ap}
use Rattle.std.proofs.Math.Bool.{and-false}
use Rattle.std.specs.Int.Signed.{le_z, le_z_yes, lt_z, lt_z_no, lt_z_yes, clash_ℤ}
use Rattle.linear.proofs.LoopLaws.{any_holds, any_next}
use Rattle.linear.specs.Systems.{value}
use Rattle.linear.proofs.TestLaws.{T-same, and_both, and_parts, any_same, true_is}
use Rattle.linear.specs.Tests.{any_to}
use Rattle.definitions.specs.System.{is_at_or_below}
use Rattle.definitions.specs.Tables.{at}
use Rattle.engine_spec.specs.Beside.{SmallTable, Worded, word_of}
use Rattle.engine_spec.specs.Reduction.{is_within, reducible}
use Rattle.engine_spec.specs.Signs.{plus}

-- number i of a table of integers
abbrev pub integer_at : List ℤ → ℕ → ℤ
integer_at table i = get_or table i (pos 0)

-- the sum of two rows
abbrev pub sum_of : ℕ → List ℕ → ℕ → ℕ → ℕ → ℕ
sum_of q table upper lower = plus (at table q upper) (at table q lower)

-- row i is at or below z, and its value lies between 0 and `sum`
abbrev pub fits_by : (q : ℕ) (row : ℕ → ℕ → ℕ) (v : ℕ → ℤ) (z : ℕ → ℕ) (sum : ℤ) → ℕ → Bool
fits_by q row v z sum i = is_within (v i) sum && is_at_or_below q (row i) z

unfoldable pub reducible_by : (q n : ℕ) (row : ℕ → ℕ → ℕ) (v : ℕ → ℤ) (z : ℕ → ℕ) (sum : ℤ) → Bool
reducible_by q n row v z sum = any_to n (fits_by q row v z sum)

-- with the values of the rows it is the stage's test
pub reducible_by_lem : (q : ℕ) (c : ℕ → ℤ) (n : ℕ) (row : ℕ → ℕ → ℕ) (v : ℕ → ℤ) (z : ℕ → ℕ) (sum : ℤ) → ((i : ℕ) → i < n → v i ≡ value c q (row i))
    → reducible_by q n row v z sum ≡ reducible q c n row z sum
unfolding reducible_by reducible
reducible_by_lem q c n row v z sum e = any_same n _ _ (λ i l. ap (λ x. is_within x sum && is_at_or_below q (row i) z) (e i l))

-- ---- what the calls are handed, and what they answer

-- n rows within the limit, their values, and two of the rows
pub record Handed (q n : ℕ) (table : List ℕ) (values : List ℤ) (upper lower : ℕ) : Type 0 where
  pub rows : SmallTable q n table
  pub valued : n ≤ length values
  pub first : upper < n
  pub second : lower < n

-- and where all rows are looked at, their words and that of the sum
pub record Looked (q n : ℕ) (table : List ℕ) (values : List ℤ) (words : List ℕ) (upper lower word : ℕ) : Type 0 where
  pub handed : Handed q n table values upper lower
  pub worded : Worded q n table words
  pub word_is : word ≡ word_of q (sum_of q table upper lower)
  pub few : n < 4294967296

abbrev pub test : (q n : ℕ) (table : List ℕ) (values : List ℤ) (upper lower : ℕ) (sum : ℤ) → Bool
test q n table values upper lower sum = reducible_by q n (at table q) (integer_at values) (sum_of q table upper lower) sum

-- a yes names a row that reduces the sum
pub record Yes (q n : ℕ) (table : List ℕ) (values : List ℤ) (upper lower : ℕ) (sum : ℤ) (r : Bool) : Type 0 where
  pub named : r ≡ true → test q n table values upper lower sum ≡ true

-- a row that reduces the sum, or all rows were looked at
abbrev pub Searched : (q n : ℕ) (table : List ℕ) (values : List ℤ) (upper lower : ℕ) (sum : ℤ) → Option ℕ → Type 0
Searched q n table values upper lower sum r =
    MatchOption r (test q n table values upper lower sum ≡ false) (λ k. (k < n) × (test q n table values upper lower sum ≡ true))

-- ---- the test of one value

pub between_below : (x lo hi : ℤ) → lt_z x lo ≡ true → (le_z lo x && le_z x hi) ≡ false
between_below x lo hi h =
    T-same (le_z lo x && le_z x hi) false (λ y. clash_ℤ (lt_z_yes {a = x} {b = lo} (rw h tt)) (le_z_yes (and_parts (le_z lo x) _ y).0)) (λ y. absurd y)

pub between_rest : (x lo hi : ℤ) → lt_z x lo ≡ false → (le_z lo x && le_z x hi) ≡ le_z x hi
between_rest x lo hi h =
    T-same (le_z lo x && le_z x hi) (le_z x hi) (λ y. (and_parts (le_z lo x) _ y).1) (λ y. and_both (le_z lo x) _ (lt_z_no {a = x} {b = lo} (rw h tt)).le y)

pub within_below : (y x : ℤ) → lt_z x (pos 0) ≡ true → is_within y x ≡ (le_z x y && le_z y (pos 0))
unfolding is_within
within_below y x h = rw h

pub within_else : (y x : ℤ) → lt_z x (pos 0) ≡ false → is_within y x ≡ (le_z (pos 0) y && le_z y x)
unfolding is_within
within_else y x h = rw h

-- ---- answers

pub never : {P : Type 0} → false ≡ true → P
never e = absurd (true_is false e)

pub fails_first : (r b d : Bool) → r ≡ b → not r ≡ true → false ≡ (b && d)
fails_first true b d e h = never h
fails_first false b d e h = rw (← e)

pub passes_first : (r b d x : Bool) → r ≡ b → not r ≡ false → x ≡ d → x ≡ (b && d)
passes_first true b d x e h g = rw (← e) g
passes_first false b d x e h g = never (sym h)

-- ---- row by row

module _ (q : ℕ) (row : ℕ → ℕ → ℕ) (v : ℕ → ℤ) (z : ℕ → ℕ) (sum : ℤ) where
  pub none_yet : reducible_by q 0 row v z sum ≡ false
  unfolding reducible_by any_to
  none_yet = refl

  pub passed : (i : ℕ) → reducible_by q i row v z sum ≡ false → fits_by q row v z sum i ≡ false → reducible_by q (i + 1) row v z sum ≡ false
  unfolding reducible_by
  passed i h e = any_next i (fits_by q row v z sum) h e

  -- row i is not at or below z
  pub passed_row : (i : ℕ) → reducible_by q i row v z sum ≡ false → is_at_or_below q (row i) z ≡ false → reducible_by q (i + 1) row v z sum ≡ false
  passed_row i h e = passed i h (rw e (and-false (is_within (v i) sum)))

  pub found : (n i : ℕ) → i < n → fits_by q row v z sum i ≡ true → reducible_by q n row v z sum ≡ true
  unfolding reducible_by
  found n i l e = any_holds n (fits_by q row v z sum) i l e
