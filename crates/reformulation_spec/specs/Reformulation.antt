-- A map in the place of another (the field's word is lattice reformulation), and numbers that show that both have the same minimal solutions. The map has p
-- equations in q unknowns. It is extended by k further unknowns, each with an equation that says what it is: a sum of the map's unknowns. The other map has m
-- equations in all q + k unknowns; whoever makes it also hands over multiples by which its equations follow from those of the extended map and these from
-- its own, and multiples by which no further unknown is below 0. Rows and columns count from 0 here. Assumes nothing.
use Rattle.std.specs.Prelude.{ℕ, zero, suc, ◌+◌, ◌*◌, ◌/◌, Bool, true, false, cond, not, ◌&&◌, List, eqb, leb, ltb, ℤ, pos, negsuc, nat_abs, ◌+ℤ◌, ◌*ℤ◌, get_or}
use Rattle.std.specs.Prelude.{length}
use Rattle.std.specs.Int.Signed.{lt_z}
use Rattle.linear.specs.Tests.{all_to, any_to}
use Rattle.definitions.specs.Answers.{Check, ◌then◌, go, refuse, refuse_if}
use Rattle.definitions.specs.Input.{input_of}
use Rattle.definitions.specs.Refusals.{between, check7, out_of_range}
use Rattle.definitions.specs.Tables.{at, write_to}

-- ---- what is handed over

pub record Reformulation : Type 0 where
  pub p : ℕ
  pub q : ℕ
  pub k : ℕ
  pub m : ℕ
  -- the map, p rows of q numbers; the extended one, p + k rows of q + k; and the other, m rows of q + k
  pub coefs : List ℤ
  pub extended : List ℤ
  pub other : List ℤ
  -- for each row of the other map how often it is taken, and then each row of the extended one: m rows of 1 + (p + k) numbers
  pub onto : List ℤ
  -- for each row of the extended map how often it is taken, and then each row of the other one: p + k rows of 1 + m numbers
  pub back : List ℤ
  -- for each further unknown how often its row is taken, and then each row of the map: k rows of 1 + p numbers
  pub above : List ℤ

abbrev pub reformulation : (p q k m : ℕ) (coefs extended other onto back above : List ℤ) → Reformulation
reformulation p q k m coefs extended other onto back above =
    record { p = p; q = q; k = k; m = m; coefs = coefs; extended = extended; other = other; onto = onto; back = back; above = above }

-- number j of row i of a table with rows of w numbers
abbrev pub row_of : ℕ → List ℤ → ℕ → ℕ → ℤ
row_of w table i j = get_or table (i * w + j) (pos 0)

-- ---- the extended map

abbrev pub is_same : ℤ → ℤ → Bool
is_same x y = not (lt_z x y) && not (lt_z y x)

-- column j of row i, from q on: a further unknown stands in its own row, with −1
abbrev pub beside : (p q i j : ℕ) → ℤ
beside p q i j = cond (eqb (j + p) (i + q)) (negsuc 0) (pos 0)

-- x may stand in column j of row i: the map's number; a further unknown's row has any numbers up to column q
abbrev pub is_entry : (p q : ℕ) (a : ℕ → ℕ → ℤ) (i j : ℕ) (x : ℤ) → Bool
is_entry p q a i j x = cond (ltb j q) (cond (ltb i p) (is_same x (a i j)) true) (is_same x (beside p q i j))

-- v is a, of p equations in q unknowns, with k further unknowns and their equations
unfoldable pub extends : (p q k : ℕ) (a v : ℕ → ℕ → ℤ) → Bool
extends p q k a v = all_to (p + k) (λ i. all_to (q + k) (λ j. is_entry p q a i j (v i j)))

-- ---- rows that follow from others

-- column j of a row taken `by 0` times, row 0 of a taken `by 1` times, .., row n - 1 of it `by n` times, added up
unfoldable pub left_over : (n : ℕ) (by row : ℕ → ℤ) (a : ℕ → ℕ → ℤ) (j : ℕ) → ℤ
left_over zero by row a j = by 0 *ℤ row j
left_over (suc n) by row a j = left_over n by row a j +ℤ by (suc n) *ℤ a n j

-- it is not below 0; and where it is to be 0 exactly, not above
abbrev pub meets : (exact : Bool) → ℤ → Bool
meets exact z = not (lt_z z (pos 0)) && not (exact && lt_z (pos 0) z)

-- the row is taken once or more, and so the sums come out in each of the first columns. Exactly: the row is 0 wherever the first n rows of a are. Else: it is
-- not below 0 there
unfoldable pub follows : (exact : Bool) (columns n : ℕ) (by row : ℕ → ℤ) (a : ℕ → ℕ → ℤ) → Bool
follows exact columns n by row a = lt_z (pos 0) (by 0) && all_to columns (λ j. meets exact (left_over n by row a j))

-- each of `count` rows of b, from row `first` on, by a row of multiples of its own
unfoldable pub all_follow : (exact : Bool) (columns n count first : ℕ) (by b a : ℕ → ℕ → ℤ) → Bool
all_follow exact columns n count first by b a = all_to count (λ i. follows exact columns n (by i) (b (first + i)) a)

-- ---- what is shown

-- the most that a multiple may be, above zero or below: the sums then fit 64 bits
abbrev pub most_multiple : ℕ
most_multiple = 1000000000000

abbrev pub are_multiples : List ℤ → Bool
are_multiples by = all_to (length by) (λ i. leb (nat_abs (get_or by i (pos 0))) most_multiple)

abbrev pub in_range : List ℤ → Bool
in_range table = not (any_to (length table) (λ i. out_of_range (get_or table i (pos 0))))

module _ (r : Reformulation) where
  abbrev pub unknowns : ℕ
  unknowns = r.q + r.k

  abbrev pub equations : ℕ
  equations = r.p + r.k

  -- the three maps as numbers of rows and columns
  abbrev pub map_row : ℕ → ℕ → ℤ
  map_row = row_of r.q r.coefs

  abbrev pub extended_row : ℕ → ℕ → ℤ
  extended_row = row_of unknowns r.extended

  abbrev pub other_row : ℕ → ℕ → ℤ
  other_row = row_of unknowns r.other

  -- all numbers are within the limits
  abbrev pub are_small : Bool
  are_small = in_range r.extended && (in_range r.other && (are_multiples r.onto && (are_multiples r.back && are_multiples r.above)))

  -- the rows of the other map follow from those of the extended one, these from them, and no further unknown is below 0
  abbrev pub shown_onto : Bool
  shown_onto = all_follow true unknowns equations r.m 0 (row_of (1 + equations) r.onto) other_row extended_row

  abbrev pub shown_back : Bool
  shown_back = all_follow true unknowns r.m equations 0 (row_of (1 + r.m) r.back) extended_row other_row

  abbrev pub shown_above : Bool
  shown_above = all_follow false r.q r.p r.k r.p (row_of (1 + r.p) r.above) extended_row extended_row

  unfoldable pub shows : Bool
  shows = are_small && (extends r.p r.q r.k map_row extended_row && (shown_onto && (shown_back && shown_above)))

  -- ---- the call

  abbrev pub are_lengths : Bool
  are_lengths =
      eqb (length r.coefs) (r.p * r.q)
      && (eqb (length r.extended) (equations * unknowns)
      && (eqb (length r.other) (r.m * unknowns)
      && (eqb (length r.onto) (r.m * (1 + equations))
      && (eqb (length r.back) (equations * (1 + r.m)) && eqb (length r.above) (r.k * (1 + r.p))))))

  -- 1, p or m is outside 1 to 32; 2, q is 0, or there are more than 32 unknowns in all; 3, a table has not as many numbers as it should; 7, a coefficient of
  -- the map is out of range, with its place
  unfoldable pub given_checks : Check
  given_checks =
      refuse_if (not (between 1 32 r.p && between 1 32 r.m)) 1
      then refuse_if (not (leb 1 r.q && leb unknowns 32)) 2
      then refuse_if (not are_lengths) 3
      then check7 (input_of r.p r.q r.coefs)

  -- 36, the numbers do not show that both maps have the same minimal solutions; else it is shown
  unfoldable pub reformulates : Check
  reformulates = given_checks then refuse_if (not shows) 36

-- ---- rows of the other map's list, without the further unknowns

-- the first q numbers of the first n rows, one row behind the other from the beginning of the table
unfoldable pub project_to : (n q : ℕ) (row : ℕ → ℕ → ℕ) → List ℕ → List ℕ
project_to zero q row out = out
project_to (suc n) q row out = write_to q (project_to n q row out) (n * q) (row n)

-- 2, q is 0, or there are more than 32 unknowns in all; 6, the table has fewer rows; 29, there is no room for so many rows
unfoldable pub project_checks : (q k found : ℕ) (rows out : List ℕ) → Check
project_checks q k found rows out =
    refuse_if (not (leb 1 q && leb (q + k) 32)) 2
    then refuse_if (not (leb found (length rows / (q + k)))) 6
    then refuse_if (not (leb found (length out / q))) 29

abbrev pub projected_by : Check → (q k found : ℕ) (rows out : List ℕ) → List ℕ
projected_by (refuse n values) q k found rows out = out
projected_by go q k found rows out = project_to found q (at rows (q + k)) out

-- what the table lent for the rows holds after the call
unfoldable pub projected : (q k found : ℕ) (rows out : List ℕ) → List ℕ
projected q k found rows out = projected_by (project_checks q k found rows out) q k found rows out
