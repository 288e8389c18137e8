-- What the tests of a stage say, and what the next degree is. Assumes nothing.
use Rattle.std.specs.Prelude.{ℕ, ◌+◌, ◌<◌, ℤ}
use Rattle.linear.specs.Systems.{value}
use Rattle.linear.specs.Tuples.{total}
use Rattle.engine_spec.specs.ReductionLaws.{Against}
use Rattle.engine_spec.specs.Search.{least_to}
use Rattle.engine_spec.specs.Stage.{Stage, pair_degree, row}

-- the values of rows h and k are above and below 0
abbrev pub Pair : (q : ℕ) (c : ℕ → ℤ) (row : ℕ → ℕ → ℕ) → ℕ → ℕ → Type 0
Pair q c row h k = Against (value c q (row h)) (value c q (row k))

-- ---- the next degree

module _ (q : ℕ) (c : ℕ → ℤ) (m : ℕ) (basis : ℕ → ℕ → ℕ) (s : Stage) where
  -- d is the degree of a row of the basis, or of a pair
  pub data Degree : ℕ → Type 0 where
    of_row : (i : ℕ) → i < m → Degree (total (basis i) q)
    of_pair : (h k : ℕ) → h < s.rows → k < s.rows → Pair q c (row q s) h k → Degree (total (row q s h) q + total (row q s k) q)

  abbrev pub d : ℕ
  d = s.degree

  abbrev pub of_rows : ℕ
  of_rows = least_to d m (λ i. total (basis i) q)

  abbrev pub of_pairs : ℕ
  of_pairs = least_to d s.rows (λ h. least_to d s.rows (pair_degree q c (row q s) h))
