-- The tests of a stage over the values and degrees of its rows instead of the rows, and what the code that finds the next pair takes and gives. All compute.
-- Assumes nothing.
use Rattle.std.specs.Prelude.{◌≡◌, Bool, cond, ◌&&◌, List, ℕ, ◌+◌, ◌≤◌, ◌<◌, eqb, ℤ, pos, length, get_or, Option, MatchOption}
use Rattle.std.specs.Int.Signed.{lt_z}
use Rattle.engine_spec.specs.Search.{holder, least_to, lesser, partner}
use Rattle.engine_search.specs.declared.Place.{Place}

-- ---- tables

abbrev pub value_of : List ℤ → ℕ → ℤ
value_of values i = get_or values i (pos 0)

abbrev pub degree_of : List ℕ → ℕ → ℕ
degree_of degrees i = get_or degrees i 0

-- the degrees of n rows, sorted, none of them 0, and within 32 components of 1,000,000
pub record Ranked (n : ℕ) (values : List ℤ) (degrees : List ℕ) : Type 0 where
  pub valued : n ≤ length values
  pub measured : n ≤ length degrees
  pub sorted : (i k : ℕ) → i ≤ k → k < n → degree_of degrees i ≤ degree_of degrees k
  pub some : (i : ℕ) → i < n → 1 ≤ degree_of degrees i
  pub low : (i : ℕ) → i < n → degree_of degrees i ≤ 32000000

-- ---- tests

-- the value of row h is above 0, that of row k below, and their degrees add up to d
unfoldable pub due_by : (v : ℕ → ℤ) (deg : ℕ → ℕ) (d h k : ℕ) → Bool
due_by v deg d h k = (lt_z (pos 0) (v h) && lt_z (v k) (pos 0)) && eqb (deg h + deg k) d

-- the degree of a pair; 0 where it is none
unfoldable pub pair_degree_by : (v : ℕ → ℤ) (deg : ℕ → ℕ) (h k : ℕ) → ℕ
pair_degree_by v deg h k = cond (lt_z (pos 0) (v h) && lt_z (v k) (pos 0)) (deg h + deg k) 0

-- the least degree above d of a pair of n rows with its upper row among the first `count`
abbrev pub least_pair : (d n : ℕ) (v : ℕ → ℤ) (deg : ℕ → ℕ) (count : ℕ) → ℕ
least_pair d n v deg count = least_to d count (λ h. least_to d n (pair_degree_by v deg h))

-- the least degree above d of m rows of the basis or of a pair of n rows; 0 where there is none
unfoldable pub next_degree_by : (d m : ℕ) (size : ℕ → ℕ) (n : ℕ) (v : ℕ → ℤ) (deg : ℕ → ℕ) → ℕ
next_degree_by d m size n v deg = lesser d (least_to d m size) (least_pair d n v deg n)

-- the least number above d is x: none where x is 0
abbrev pub IsLeast : (d x : ℕ) → Option ℕ → Type 0
IsLeast d x r = MatchOption r (x ≡ 0) (λ y. (y ≡ x) × (d < y))

-- ---- the next pair

-- from row `first` on, no degree is below what the degree of row `upper` leaves of d
pub record Falling (n : ℕ) (degrees : List ℕ) (d upper first : ℕ) : Type 0 where
  pub late : upper < n → (k : ℕ) → first ≤ k → k < n → d ≤ degree_of degrees upper + degree_of degrees k

-- the test by two tables, and the first pair from (u, l) on that meets it
abbrev pub due : List ℤ → List ℕ → ℕ → ℕ → ℕ → Bool
due values degrees = due_by (value_of values) (degree_of degrees)

abbrev pub upper_of : (n : ℕ) → List ℤ → List ℕ → (d u l : ℕ) → ℕ
upper_of n values degrees d u l = holder n (due values degrees d) u l

abbrev pub lower_of : (n : ℕ) → List ℤ → List ℕ → (d u l : ℕ) → ℕ
lower_of n values degrees d u l = partner n (due values degrees d) u l (upper_of n values degrees d u l)

-- (upper, lower) is that pair
pub record IsNext (n : ℕ) (values : List ℤ) (degrees : List ℕ) (d u l upper lower first : ℕ) : Type 0 where
  pub upper_is : upper ≡ upper_of n values degrees d u l
  pub lower_is : lower ≡ lower_of n values degrees d u l
  pub falling : Falling n degrees d upper first

-- the pair that is next from (u, l) on, or none
abbrev pub Found : (n : ℕ) → List ℤ → List ℕ → (d u l : ℕ) → Option Place → Type 0
Found n values degrees d u l r =
    MatchOption r (n ≤ upper_of n values degrees d u l) (λ p. (p.upper < n) × IsNext n values degrees d u l p.upper p.lower p.first)
