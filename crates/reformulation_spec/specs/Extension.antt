-- A map with further unknowns, each equal to a sum of the map's: a solution of the extended map is one of the map, the further unknowns are then determined,
-- and where none of them is below 0 at a solution of the map, both have the same minimal solutions. Assumes nothing.
use Rattle.std.specs.Prelude.{◌≡◌, ◌≢◌, ℕ, ◌+◌, ◌<◌, ℤ, negsuc}
use Rattle.std.proofs.Math.IntN.{pos}

-- v is a, of p equations in q unknowns, with k further unknowns: each stands in its own equation, with −1, and in no other
pub record Extends (p q k : ℕ) (a v : ℕ → ℕ → ℤ) : Type 0 where
  pub map : (i j : ℕ) → i < p → j < q → v i j ≡ a i j
  pub free : (i l : ℕ) → i < p → l < k → v i (q + l) ≡ pos 0
  pub own : (l : ℕ) → l < k → v (p + l) (q + l) ≡ negsuc 0
  pub others : (l n : ℕ) → l < k → n < k → n ≢ l → v (p + l) (q + n) ≡ pos 0
