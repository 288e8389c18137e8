-- The first place at which a test holds, as a search finds it, and a function applied again and again. Both compute. Assumes nothing.
use Rattle.std.specs.Prelude.{ℕ, zero, suc, ◌+◌, Bool, not, ◌&&◌, eqb}
use Rattle.linear.specs.Tests.{number}

-- r is the first place before n, or n where there is none: the same for n + 1, where b says whether the test holds at n
abbrev pub one_more : ℕ → ℕ → Bool → ℕ
one_more r n b = r + number (eqb r n && not b)

-- the first of the places 0 .. n - 1 at which f holds, or n where it holds at none
unfoldable pub find_to : ℕ → (ℕ → Bool) → ℕ
find_to zero f = 0
find_to (suc n) f = one_more (find_to n f) n (f n)

-- f applied k times to y
unfoldable pub iterate : (ℕ → ℕ) → ℕ → ℕ → ℕ
iterate f y zero = y
iterate f y (suc k) = f (iterate f y k)
