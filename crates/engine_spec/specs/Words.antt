-- Words: a tuple in one number, four bits to a place, each component as far as 7. The test whether one tuple lies at or below another is then one difference
-- and one mask, and refuses nothing that it should take; for a lower tuple with components of at most 7 it is exact. The word of a sum comes from the
-- words. A tuple of fewer than 16 places is filled up with zeros. Assumes nothing.
use Rattle.std.specs.Prelude.{Bool, ℕ, zero, suc, ◌+◌, ◌*◌, ◌-◌, ◌/◌, ◌%◌, min, eqb}
use Rattle.std.specs.Int.Bits.{bit_and, bit_or}

-- f 0, f 1, .. as digits to the base 16, the first one last
unfoldable pub digits : ℕ → (ℕ → ℕ) → ℕ
digits zero f = 0
digits (suc n) f = f 0 + 16 * digits n (λ j. f (suc j))

-- digit j
unfoldable pub digit : ℕ → ℕ → ℕ
digit w zero = w % 16
digit w (suc j) = digit (w / 16) j

abbrev pub capped : ℕ → ℕ
capped x = min x 7

unfoldable pub word : ℕ → (ℕ → ℕ) → ℕ
word q x = digits q (λ j. capped (x j))

-- the highest bit of each digit, 0x88.., and the others, 0x77..
unfoldable pub guards : ℕ → ℕ
guards q = digits q (λ j. 8)

unfoldable pub others : ℕ → ℕ
others q = digits q (λ j. 7)

-- the guards are left when r is taken from z with the guards set
unfoldable pub fits : (q r z : ℕ) → Bool
fits q r z = eqb (bit_and (bit_or z (guards q) - r) (guards q)) (guards q)

-- the word of a sum: a digit that has reached its guard becomes 7
unfoldable pub joined : (q x y : ℕ) → ℕ
joined q x y = bit_or (bit_and (x + y) (others q)) (bit_and (x + y) (guards q) - bit_and (x + y) (guards q) / 8)

-- ---- the test

module _ (q : ℕ) (r z : ℕ → ℕ) where
  abbrev pub left : ℕ → ℕ
  left j = 8 + capped (z j) - capped (r j)
