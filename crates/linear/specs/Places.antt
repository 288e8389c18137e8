-- The first and the last of the places 0 .. n - 1 at which a test holds, counted from 1. Each is by recursion on the number of places, and each computes.
-- Assumes nothing.
use Rattle.std.specs.Prelude.{ℕ, zero, suc, Bool, true, false}
use Rattle.std.proofs.Math.Option.{Option, some, none}

unfoldable pub else_if : Option ℕ → Bool → ℕ → Option ℕ
else_if (some k) b n = some k
else_if none true n = some n
else_if none false n = none

-- the first place
unfoldable pub first_to : ℕ → (ℕ → Bool) → Option ℕ
first_to zero f = none
first_to (suc n) f = else_if (first_to n f) (f n) (suc n)

unfoldable pub place_if : Bool → ℕ → Option ℕ → Option ℕ
place_if true n rest = some n
place_if false n rest = rest

-- the last place
unfoldable pub last_to : ℕ → (ℕ → Bool) → Option ℕ
last_to zero f = none
last_to (suc n) f = place_if (f n) (suc n) (last_to n f)
