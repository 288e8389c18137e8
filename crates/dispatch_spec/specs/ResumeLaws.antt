-- What a continuing call keeps: the lengths of its tables, and the order of its count of steps. Assumes nothing.
use Rattle.std.specs.Prelude.{ℕ, ◌≤◌, max}
use Rattle.definitions.specs.Refusals.{step_limit}

-- the count does not fall, and where it rises it is not above the limit
pub record Rises (a b : ℕ) : Type 0 where
  pub from : a ≤ b
  pub top : b ≤ max a step_limit
