-- What the numbers handed over show: each test, and what it is a test of. Assumes nothing.
use Rattle.std.specs.Prelude.{List, ℕ, ◌+◌, ◌≤◌, ◌<◌, ℤ, pos, nat_abs, get_or, length}
use Rattle.definitions.specs.System.{coef_limit}
use Rattle.reformulation_spec.specs.Extension.{Extends}
use Rattle.reformulation_spec.specs.Following.{AtLeast, Exactly}
use Rattle.reformulation_spec.specs.Reformulation.{Reformulation, equations, extended_row, map_row, most_multiple, other_row, row_of, unknowns}

-- no number of the table is above the limit in size
abbrev pub Small : ℕ → List ℤ → Type 0
Small limit table = (i : ℕ) → i < length table → nat_abs (get_or table i (pos 0)) ≤ limit

-- What is shown where the call says yes.
pub record Shown (r : Reformulation) : Type 0 where
  -- coefficients and multiples are within their limits
  pub extended : Small coef_limit r.extended
  pub other : Small coef_limit r.other
  pub onto_small : Small most_multiple r.onto
  pub back_small : Small most_multiple r.back
  pub above_small : Small most_multiple r.above
  -- the extended map is the map with k further unknowns, each with an equation of its own
  pub extends_map : Extends r.p r.q r.k (map_row r) (extended_row r)
  -- each equation of the other map follows from those of the extended one, and each of these from those of the other
  pub onto : (i : ℕ) → i < r.m → Exactly (unknowns r) (equations r) (row_of (1 + equations r) r.onto i) (other_row r i) (extended_row r)
  pub back : (i : ℕ) → i < equations r → Exactly (unknowns r) r.m (row_of (1 + r.m) r.back i) (extended_row r i) (other_row r)
  -- a further unknown and multiples of the map's equations have no coefficient below 0
  pub above : (l : ℕ) → l < r.k → AtLeast r.q r.p (row_of (1 + r.p) r.above l) (extended_row r (r.p + l)) (extended_row r)
