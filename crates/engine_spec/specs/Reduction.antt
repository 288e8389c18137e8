-- Which sums of two rows need not become rows: those that some row at or below them reduces. All computes. Assumes nothing.
use Rattle.std.specs.Prelude.{ℕ, Bool, cond, ◌&&◌, leb, ℤ, pos}
use Rattle.std.specs.Int.Signed.{lt_z, le_z}
use Rattle.linear.specs.Systems.{value}
use Rattle.linear.specs.Tests.{all_to, any_to}
use Rattle.definitions.specs.System.{most_component, is_at_or_below}

-- the smaller and the larger of x and 0
abbrev pub low : ℤ → ℤ
low x = cond (lt_z x (pos 0)) x (pos 0)

abbrev pub high : ℤ → ℤ
high x = cond (lt_z x (pos 0)) (pos 0) x

-- y lies between 0 and x
unfoldable pub is_within : ℤ → ℤ → Bool
is_within y x = le_z (low x) y && le_z y (high x)

-- row i is at or below z, and its value lies between 0 and `sum`, the value of z
abbrev pub reduces : (q : ℕ) (c : ℕ → ℤ) (row : ℕ → ℕ → ℕ) (z : ℕ → ℕ) (sum : ℤ) → ℕ → Bool
reduces q c row z sum i = is_within (value c q (row i)) sum && is_at_or_below q (row i) z

unfoldable pub reducible : (q : ℕ) (c : ℕ → ℤ) (n : ℕ) (row : ℕ → ℕ → ℕ) (z : ℕ → ℕ) (sum : ℤ) → Bool
reducible q c n row z sum = any_to n (reduces q c row z sum)

-- "at most 1,000,000"
unfoldable pub is_small : ℕ → (ℕ → ℕ) → Bool
is_small q z = all_to q (λ j. leb (z j) most_component)
