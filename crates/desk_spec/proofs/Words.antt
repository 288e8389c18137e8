-- Marks in two numbers, "loops 1 to 32 in the first": bit j of the whole is bit j of the first number for j below 32, and bit j - 32 of the second from there
-- on. Assumes nothing.
use Rattle.std.specs.Prelude.{◌≡◌, ℕ, zero, suc, ◌+◌, ◌*◌, ◌^◌, ◌/◌, ◌%◌, ◌<◌, eqb}
use Rattle.std.proofs.Common.{ap, zero-add, suc-add, arith}
use Rattle.std.proofs.Math.Nat.{two-pow-succ}
use Rattle.definitions.specs.Tables.{bit, frozen}
use Rattle.desk_spec.specs.Desks.{word}

doubled : (b c : ℕ) → b * (c + c) ≡ 2 * (b * c)
doubled b c = omega arith

-- the lowest bit of a + b * 2 ^ (w + 1), and the others
lowest : (a b w : ℕ) → (a + b * 2 ^ suc w) % 2 ≡ a % 2
lowest a b w = rw (two-pow-succ w) (omega (arith, doubled b (2 ^ w)))

others : (a b w : ℕ) → (a + b * 2 ^ suc w) / 2 ≡ a / 2 + b * 2 ^ w
others a b w = rw (two-pow-succ w) (omega (arith, doubled b (2 ^ w)))

bit_low : (w a b j : ℕ) → j < w → bit (a + b * 2 ^ w) j ≡ bit a j
unfolding bit
bit_low zero a b j l = absurd (omega arith)
bit_low (suc w) a b zero l = lowest a b w
bit_low (suc w) a b (suc j) l = rw (others a b w) (bit_low w (a / 2) b j (omega arith))

bit_high : (w a b j : ℕ) → a < 2 ^ w → bit (a + b * 2 ^ w) (w + j) ≡ bit b j
unfolding bit
bit_high zero a b j l = let e : a + b * 2 ^ 0 ≡ b = omega arith in rw (e, zero-add j)
bit_high (suc w) a b j l = rw (suc-add w j) (next (bit_high w (a / 2) b j (omega arith)))
  where
    next : bit (a / 2 + b * 2 ^ w) (w + j) ≡ bit b j → bit ((a + b * 2 ^ suc w) / 2) (w + j) ≡ bit b j
    next h = rw (others a b w) h

pub frozen_low : (low high j : ℕ) → j < 32 → frozen (low + high * word) j ≡ frozen low j
unfolding frozen
frozen_low low high j l = ap (λ x. eqb x 1) (bit_low 32 low high j l)

pub frozen_high : (low high j : ℕ) → low < word → frozen (low + high * word) (32 + j) ≡ frozen high j
unfolding frozen
frozen_high low high j l = ap (λ x. eqb x 1) (bit_high 32 low high j l)
