-- Two's complement as the code computes it, in words of 32 bits. Assumes nothing.
use Rattle.std.specs.Prelude.{◌≡◌, ℕ, zero, suc, ◌+◌, ◌-◌, ◌^◌, ◌<◌, ◌≤◌, true, false, T, ℤ, pos, negsuc, ◌+ℤ◌, ◌-ℤ◌, FitsSigned, int_lt, unsigned_abs, refl}
use Rattle.std.proofs.Common.{true≢false, arith, to_z-of_z, Fits, to_z, le-ltb, ltb-true}
use Rattle.std.proofs.Math.IntN.{+ℤ_idl, +ℤ_one}
use Rattle.std.specs.Int.Signed.{non_neg}
use Rattle.std.specs.Int.{w32}
use borrow.Author.Rules.{sfits_of}
use Rattle.list_spec.specs.Words.{unsigned, signed}

-- ---- from a coefficient

next_back : (n : ℕ) → pos 0 -ℤ (negsuc n +ℤ pos 1) ≡ pos n
next_back zero = refl
next_back (suc n) = rw (+ℤ_one (negsuc (suc n)), +ℤ_idl (pos (suc n)))

next_fits : (n : ℕ) → n < 2 ^ 31 → FitsSigned w32 (negsuc n +ℤ pos 1)
next_fits zero l = sfits_of (omega arith)
next_fits (suc n) l = rw (+ℤ_one (negsuc (suc n))) (sfits_of (omega arith))

-- a coefficient below zero, -(n + 1)
pub record Below (z : ℤ) : Type 0 where
  pub n : ℕ
  pub small : n < 2 ^ 31
  pub next : FitsSigned w32 (z +ℤ pos 1)
  pub back : pos 0 -ℤ (z +ℤ pos 1) ≡ pos n
  pub word : 4294967295 - n ≡ unsigned z

pub below_zero : (z : ℤ) → FitsSigned w32 z → int_lt z (pos 0) ≡ true → Below z
below_zero (pos n) f e = absurd (omega (arith, ltb-true n 0 e))
below_zero (negsuc n) f e =
    record { n = n; small = f.sfits; next = next_fits n f.sfits; back = next_back n; word = omega arith }

-- one that is not
pub record NotBelow (z : ℤ) : Type 0 where
  pub sign : T (non_neg z)
  pub fits : Fits w32 (unsigned_abs z)
  pub word : unsigned_abs z ≡ unsigned z

pub not_below_zero : (z : ℤ) → FitsSigned w32 z → int_lt z (pos 0) ≡ false → NotBelow z
not_below_zero (pos n) f e = record { sign = tt; fits = record { fits = omega (arith, f.sfits) }; word = refl }
not_below_zero (negsuc n) f e = absurd (true≢false e)

module _ (n : ℕ) (l : n < 2 ^ 31) where
  pub natural_fits : FitsSigned w32 (pos n)
  natural_fits = sfits_of l

  pub natural_word : to_z w32 n ≡ pos n
  natural_word = to_z-of_z {w = w32} {z = pos n} natural_fits

  pub negative_fits : FitsSigned w32 (negsuc n)
  negative_fits = sfits_of l

-- ---- from a word

pub one_less : (n : ℕ) → negsuc 0 -ℤ pos n ≡ negsuc n
one_less zero = refl
one_less (suc n) = let e : 0 + n ≡ n = omega arith in rw e

pub negative_word : (w : ℕ) → 2 ^ 31 ≤ w → negsuc (4294967295 - w) ≡ signed w
negative_word w l = let e : 4294967296 - suc w ≡ 4294967295 - w = omega arith in rw (le-ltb w (2 ^ 31) l, e)
