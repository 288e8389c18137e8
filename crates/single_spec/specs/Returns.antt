-- A function applied again and again until it first comes back: it meets no number twice, and goes round. Assumes nothing.
use Rattle.std.specs.Prelude.{◌≡◌, ◌≢◌, ℕ, ◌<◌}
use Rattle.single_spec.specs.First.{iterate}

-- from y, f comes back to y after L times, and not before
pub record Returns (f : ℕ → ℕ) (y L : ℕ) : Type 0 where
  pub some : 0 < L
  pub back : iterate f y L ≡ y
  pub not_before : (k : ℕ) → 0 < k → k < L → iterate f y k ≢ y
