-- Signed numbers as the code has them: a number of nine digits in a word of 32 bits, and its negation. Assumes nothing.
use Rattle.std.specs.Prelude.{ℕ, zero, suc, ◌<◌, true, List, ◌∷◌, ◌≡◌, refl, ℤ, pos, negsuc, nat_abs, ◌-ℤ◌}
use Rattle.std.proofs.Common.{arith, to_z-of_z, SFits, to_z, ltb-true}
use Rattle.std.proofs.Math.IntN.{+ℤ_idl}
use Rattle.std.specs.Int.Signed.{lt_z}
use Rattle.std.specs.Int.{w32}
use borrow.Author.Rules.{sfits_of}
use Rattle.texts.specs.Decimals.{minus, decimal, numeral}
use Rattle.texts.specs.Reading.{parsed, negative}

module _ (n : ℕ) (l : n < 1000000000) where
  pub fits_word : SFits w32 (pos n)
  fits_word = sfits_of (omega arith)

  pub word_value : to_z w32 n ≡ pos n
  word_value = to_z-of_z {w = w32} {z = pos n} fits_word

pub fits_negated : (n : ℕ) → n < 1000000000 → SFits w32 (pos 0 -ℤ pos n)
fits_negated zero l = sfits_of (omega arith)
fits_negated (suc n) l = rw (+ℤ_idl (negsuc n)) (sfits_of (omega arith))

pub negated : (n : ℕ) (t : List ℕ) → (n ≡ 0 → ⊥) → parsed (pos 0 -ℤ pos n) t ≡ negative n t
negated zero t h = absurd (h refl)
negated (suc n) t h = rw (+ℤ_idl (negsuc n))

-- ---- a number by its sign and its size

pub numeral_negative : (z : ℤ) → lt_z z (pos 0) ≡ true → numeral z ≡ minus ∷ decimal (nat_abs z)
numeral_negative (pos n) e = absurd (omega (arith, ltb-true n 0 e))
numeral_negative (negsuc n) e = refl
