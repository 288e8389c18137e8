-- Document 01, "What a system is". Unknowns and equations count from 0 here. Assumes nothing.
use Rattle.std.specs.Prelude.{ℕ, zero, suc, ◌+◌, ◌*◌, Bool, false, List, [], ◌∷◌, ◌++◌, leb, eqb, ℤ, pos, negsuc, neg_ℤ, get_or, take, drop}
use Rattle.linear.specs.Tests.{all_to, any_to}
use Rattle.linear.specs.Tuples.{AtOrBelow, Nonzero, Minimal}
use Rattle.linear.specs.Systems.{inner, image, Meets, SolutionIn}

-- "p equations, 1 to 8. q unknowns, 1 to 16."
abbrev pub most_equations : ℕ
most_equations = 8

abbrev pub most_unknowns : ℕ
most_unknowns = 16

-- "Coefficients are whole numbers from −10,000 to 10,000"
abbrev pub coef_limit : ℕ
coef_limit = 10000

-- "A tuple gives each unknown a natural number, at most 1,000,000."
abbrev pub most_component : ℕ
most_component = 1000000

-- The kinds of walk: plain; with a first unknown that "is never raised past 1" (capped); from a lower bound (document 02: a floor), above a list of minimal
-- solutions. What a kind decides is a definition by cases on it: `stopped_by`, `within`, `row_width`, `full_for` and `enlist` of `Step`, `inside` of
-- `Refusals`.
pub data Kind : Type 0 where
  plain : Kind
  capped : Kind
  above : (ℕ → ℕ) → Kind

-- A system that a walk goes through (document 01: a map): p equations, q unknowns, and the coefficients, "given row by row, p × q of them. All right sides are
-- zero."; the kind of the walk, and the limit of its components. Where the walk is capped, the extra unknown is one of the q.
pub record System : Type 0 where
  pub p : ℕ
  pub q : ℕ
  pub coefs : List ℤ
  pub kind : Kind
  pub limit : ℕ

abbrev pub coef : System → ℕ → ℕ → ℤ
coef m i j = get_or m.coefs (i * m.q + j) (pos 0)

-- "Its image is the vector of p sums, one for each equation."
abbrev pub image_of : System → (ℕ → ℕ) → ℕ → ℤ
image_of m x = image (coef m) m.q x

-- "The image of the tuple with a single 1 at place j is column j." (`image_unit` of SystemLaws)
abbrev pub column : System → ℕ → ℕ → ℤ
column m j i = coef m i j

-- the inner product of the image of x with column j
abbrev pub towards : System → (ℕ → ℕ) → ℕ → ℤ
towards m x j = inner m.p (image_of m x) (column m j)

abbrev pub is_zero : ℤ → Bool
is_zero (pos n) = eqb n 0
is_zero (negsuc n) = false

-- "A solution is a tuple with image zero.": the test
unfoldable pub solves : System → (ℕ → ℕ) → Bool
solves m x = all_to m.p (λ i. is_zero (image_of m x i))

-- "each component of s is at most that of t": the test
unfoldable pub is_at_or_below : ℕ → (ℕ → ℕ) → (ℕ → ℕ) → Bool
is_at_or_below q s t = all_to q (λ j. leb (s j) (t j))

-- one of the first n rows is at or below x
unfoldable pub covered : ℕ → ℕ → (ℕ → ℕ → ℕ) → (ℕ → ℕ) → Bool
covered q n row x = any_to n (λ i. is_at_or_below q (row i) x)

-- "A minimal solution is a nonzero solution with no nonzero solution below it." (In the trade: a loop. Its components may be of any size.)
abbrev pub MinimalSolution : System → (ℕ → ℕ) → Type 0
MinimalSolution m = Minimal m.q (SolutionIn m.p m.q (coef m) (Nonzero m.q))

-- "With a floor .. the minimal solutions at or above the floor are meant, and the zero tuple counts". Here a floor is a lower bound.
abbrev pub MinimalFrom : System → (ℕ → ℕ) → (ℕ → ℕ) → Type 0
MinimalFrom m lower = Minimal m.q (SolutionIn m.p m.q (coef m) (AtOrBelow m.q lower))

-- ---- right sides (document 02): "each equation gets a right side from −10,000 to 10,000"

-- "an extra unknown, placed first with the negated right sides as its column": the first i rows of coefficients
unfoldable pub extend_to : ℕ → ℕ → List ℤ → List ℤ → List ℤ
extend_to zero q coefs rights = []
extend_to (suc i) q coefs rights = extend_to i q coefs rights ++ (neg_ℤ (get_or rights i (pos 0)) ∷ take q (drop (i * q) coefs))

-- the system that a capped walk goes through
abbrev pub extended : List ℤ → System → System
extended rights m = record { p = m.p; q = suc m.q; coefs = extend_to m.p m.q m.coefs rights; kind = capped; limit = m.limit }

-- "the smallest tuples that meet the right sides, zero if all of them are zero"
abbrev pub MinimalMeeting : System → List ℤ → (ℕ → ℕ) → Type 0
MinimalMeeting m rights = Minimal m.q (Meets m.p m.q (coef m) (λ i. get_or rights i (pos 0)))
