-- Request 3: the meaning of a reading, and the limits. Assumes nothing.
use Rattle.std.specs.Prelude.{ℕ, suc, ◌*◌, max, Bool, false, cond, ◌||◌, eqb, ltb, ℤ, pos, neg_ℤ, ◌+ℤ◌, ◌-ℤ◌, ◌*ℤ◌}
use Rattle.definitions.specs.System.{coef_limit}
use Rattle.equation_spec.specs.Grammar.{Sign, plus, minus, Lead, bare, led, Sum, one, more, Term, number, plain, times, Factor, unknown, bracket}
use Rattle.equation_spec.specs.Grammar.{Equation}

-- ---- the value of a sum: a whole number for each unknown, from 1, and one at 0 for the constants

abbrev pub signed : Sign → ℤ → ℤ
signed plus z = z
signed minus z = neg_ℤ z

abbrev pub led_by : Lead → ℤ → ℤ
led_by bare z = z
led_by (led s) z = signed s z

-- v at place k, 0 elsewhere
abbrev pub single : ℕ → ℤ → ℕ → ℤ
single k v i = cond (eqb i k) v (pos 0)

unfoldable mutual
  -- "Like unknowns are collected"
  pub of_sum : Sum → ℕ → ℤ
  of_sum (one l u) i = led_by l (of_term u i)
  of_sum (more e s u) i = of_sum e i +ℤ signed s (of_term u i)

  pub of_term : Term → ℕ → ℤ
  of_term (number n) i = single 0 (pos n) i
  of_term (plain f) i = of_factor f i
  of_term (times n f) i = pos n *ℤ of_factor f i

  pub of_factor : Factor → ℕ → ℤ
  of_factor (unknown k) i = single k (pos 1) i
  of_factor (bracket e) i = of_sum e i

-- the coefficient of unknown k, from 1: the left side less the right side
unfoldable pub coefficient : Equation → ℕ → ℤ
coefficient e k = of_sum e.left k -ℤ of_sum e.right k

-- "constants go right"
unfoldable pub right_side : Equation → ℤ
right_side e = of_sum e.right 0 -ℤ of_sum e.left 0

-- ---- limits

unfoldable mutual
  -- how many brackets stand one in another
  pub sum_depth : Sum → ℕ
  sum_depth (one l u) = term_depth u
  sum_depth (more e s u) = max (sum_depth e) (term_depth u)

  pub term_depth : Term → ℕ
  term_depth (number n) = 0
  term_depth (plain f) = factor_depth f
  term_depth (times n f) = factor_depth f

  pub factor_depth : Factor → ℕ
  factor_depth (unknown k) = 0
  factor_depth (bracket e) = suc (sum_depth e)

unfoldable mutual
  -- "product of the multipliers around a bracket above 10,000", somewhere in a sum around which the product is m
  pub sum_exceeds : Sum → ℕ → Bool
  sum_exceeds (one l u) m = term_exceeds u m
  sum_exceeds (more e s u) m = sum_exceeds e m || term_exceeds u m

  pub term_exceeds : Term → ℕ → Bool
  term_exceeds (number n) m = false
  term_exceeds (plain f) m = factor_exceeds f m
  term_exceeds (times n f) m = factor_exceeds f (m * n)

  -- a factor with the product m of the multipliers before it and around it
  pub factor_exceeds : Factor → ℕ → Bool
  factor_exceeds (unknown k) m = false
  factor_exceeds (bracket e) m = ltb coef_limit m || sum_exceeds e m
