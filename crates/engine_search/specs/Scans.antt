-- The scan over the rows of one degree for the first whose value is below 0. Assumes nothing.
use Rattle.std.specs.Prelude.{◌≡◌, List, ℕ, ◌≤◌, ◌<◌, ℤ, Option, MatchOption}
use Rattle.engine_search.specs.Falls.{is_below}
use Rattle.engine_search.specs.Places.{degree_of}

-- none of the rows from `from` up to k has degree e and a value below 0
pub record Passed (values : List ℤ) (degrees : List ℕ) (e from k : ℕ) : Type 0 where
  pub none : (j : ℕ) → from ≤ j → j < k → is_below values j → ¬ (degree_of degrees j ≡ e)

-- the first of the n rows from `from` on that has, or there is none
abbrev pub Below : (n : ℕ) (values : List ℤ) (degrees : List ℕ) (e from : ℕ) → Option ℕ → Type 0
Below n values degrees e from r =
    MatchOption r (Passed values degrees e from n)
    (λ k. (from ≤ k) × (k < n) × is_below values k × (degree_of degrees k ≡ e) × Passed values degrees e from k)
