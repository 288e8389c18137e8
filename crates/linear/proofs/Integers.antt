-- Laws of ℤ that `lib.IntN` and `lib.Signed` leave out: the ring's, the order's, and bounds by `nat_abs`.
-- Assumes nothing.
use Rattle.std.specs.Prelude.{◌≡◌, refl, ◌≢◌, ◌⊎◌, ℕ, zero, suc, ◌+◌, ◌*◌, ◌^◌, ◌≤◌, ◌<◌, ℤ, pos, negsuc, neg_ℤ, nat_abs, ◌+ℤ◌, ◌*ℤ◌, ◌≤ℤ◌, ◌<ℤ◌}
use Rattle.std.proofs.Common.{inl, inr, mul-le-mul_left, arith, sym, ap, ◌∙◌}
use Rattle.std.proofs.Math.Nat.{mul-lt-mul_of_pos_left}
use Rattle.std.proofs.Math.Decide.{dec_lt}
use Rattle.std.specs.Int.Signed.{mag, clash_ℤ}
use Rattle.std.specs.Int.{Width}
use mir.Val.{Fits, SFits, hbits, of_z, to_z}
use mir.Facts.{of_z-to_z}
use Rattle.linear.specs.Differences.{up, down, products, integers, up_le, up_lt}
use Rattle.linear.proofs.Differences.{one_side, sum_is}
use Rattle.linear.specs.Terms.{#◌, ◌⊕◌, ◌⊗◌, ⊖◌}
use Rattle.linear.proofs.Terms.{ring, ring_le, ring_lt}

-- ---- the ring

pub +ℤ-left-comm : (a b c : ℤ) → a +ℤ (b +ℤ c) ≡ b +ℤ (a +ℤ c)
+ℤ-left-comm a b c = ring (# a ⊕ (# b ⊕ # c)) (# b ⊕ (# a ⊕ # c)) (omega arith)

pub +ℤ-right-comm : (a b c : ℤ) → a +ℤ b +ℤ c ≡ a +ℤ c +ℤ b
+ℤ-right-comm a b c = ring (# a ⊕ # b ⊕ # c) (# a ⊕ # c ⊕ # b) (omega arith)

pub *ℤ-one' : (a : ℤ) → a *ℤ pos 1 ≡ a
*ℤ-one' a = ring (# a ⊗ # (pos 1)) (# a) (omega arith)

pub *ℤ-assoc : (a b c : ℤ) → (a *ℤ b) *ℤ c ≡ a *ℤ (b *ℤ c)
*ℤ-assoc a b c = ring (# a ⊗ # b ⊗ # c) (# a ⊗ (# b ⊗ # c)) (omega arith)

pub *ℤ-left-comm : (a b c : ℤ) → a *ℤ (b *ℤ c) ≡ b *ℤ (a *ℤ c)
*ℤ-left-comm a b c = ring (# a ⊗ (# b ⊗ # c)) (# b ⊗ (# a ⊗ # c)) (omega arith)

pub *ℤ-+ℤ : (a b c : ℤ) → a *ℤ (b +ℤ c) ≡ a *ℤ b +ℤ a *ℤ c
*ℤ-+ℤ a b c = ring (# a ⊗ (# b ⊕ # c)) (# a ⊗ # b ⊕ # a ⊗ # c) (omega arith)

pub +ℤ-*ℤ : (a b c : ℤ) → (a +ℤ b) *ℤ c ≡ a *ℤ c +ℤ b *ℤ c
+ℤ-*ℤ a b c = ring ((# a ⊕ # b) ⊗ # c) (# a ⊗ # c ⊕ # b ⊗ # c) (omega arith)

pub negℤ_*ℤ : (a b : ℤ) → neg_ℤ a *ℤ b ≡ neg_ℤ (a *ℤ b)
negℤ_*ℤ a b = ring (⊖ # a ⊗ # b) (⊖ (# a ⊗ # b)) (omega arith)

pub *ℤ-negℤ : (a b : ℤ) → a *ℤ neg_ℤ b ≡ neg_ℤ (a *ℤ b)
*ℤ-negℤ a b = ring (# a ⊗ ⊖ # b) (⊖ (# a ⊗ # b)) (omega arith)

-- ---- the order

pub ≤ℤ-trans : {a b c : ℤ} → a ≤ℤ b → b ≤ℤ c → a ≤ℤ c
≤ℤ-trans h k = omega integers

pub ≤ℤ-antisym : {a b : ℤ} → a ≤ℤ b → b ≤ℤ a → a ≡ b
≤ℤ-antisym h k = omega integers

pub ≤ℤ-<ℤ-trans : {a b c : ℤ} → a ≤ℤ b → b <ℤ c → a <ℤ c
≤ℤ-<ℤ-trans h k = omega integers

pub <ℤ-≤ℤ : {a b : ℤ} → a <ℤ b → a ≤ℤ b
<ℤ-≤ℤ h = omega integers

pub compareℤ : (a b : ℤ) → (a <ℤ b) ⊎ (b ≤ℤ a)
compareℤ a b = elim (dec_lt (up a + down b) (up b + down a)) [ yes h ↦ inl (omega integers) | no h ↦ inr (omega integers) ]

pub dec_<ℤ : (a b : ℤ) → Dec (a <ℤ b)
dec_<ℤ a b = elim (compareℤ a b) [ inl h ↦ yes h | inr k ↦ no (λ h. clash_ℤ h k) ]

pub trichotomy : (a b : ℤ) → (a <ℤ b) ⊎ ((a ≡ b) ⊎ (b <ℤ a))
trichotomy a b =
    elim (compareℤ a b) [ inl h ↦ inl h | inr h ↦ elim (compareℤ b a) [ inl k ↦ inr (inr k) | inr k ↦ inr (inl (≤ℤ-antisym k h)) ] ]

pub +ℤ-mono : {a b c d : ℤ} → a ≤ℤ b → c ≤ℤ d → (a +ℤ c) ≤ℤ (b +ℤ d)
+ℤ-mono {a} {b} {c} {d} h k = omega (integers, sum_is a c, sum_is b d)

pub +ℤ-mono-< : {a b c d : ℤ} → a ≤ℤ b → c <ℤ d → (a +ℤ c) <ℤ (b +ℤ d)
+ℤ-mono-< {a} {b} {c} {d} h k = omega (integers, sum_is a c, sum_is b d)

pub +ℤ-nonneg : {a b : ℤ} → pos 0 ≤ℤ a → pos 0 ≤ℤ b → pos 0 ≤ℤ (a +ℤ b)
+ℤ-nonneg {a} {b} h k = omega (integers, sum_is a b)

pub *ℤ-mono : (n : ℕ) {a b : ℤ} → a ≤ℤ b → (pos n *ℤ a) ≤ℤ (pos n *ℤ b)
*ℤ-mono n {a} {b} h = ring_le (# pos n ⊗ # a) (# pos n ⊗ # b) (omega (arith, mul-le-mul_left n (up_le h)))

pub *ℤ-mono-< : {n : ℕ} {a b : ℤ} → 0 < n → a <ℤ b → (pos n *ℤ a) <ℤ (pos n *ℤ b)
*ℤ-mono-< {n} {a} {b} p h = ring_lt (# pos n ⊗ # a) (# pos n ⊗ # b) (omega (arith, mul-lt-mul_of_pos_left (up_lt h) p))

pub square_nonneg : (a : ℤ) → pos 0 ≤ℤ (a *ℤ a)
square_nonneg (pos n) = omega integers
square_nonneg (negsuc n) = omega integers

pub square_pos : {a : ℤ} → a ≢ pos 0 → pos 0 <ℤ (a *ℤ a)
square_pos {a = pos zero} h = absurd (h refl)
square_pos {a = pos (suc n)} h = omega integers
square_pos {a = negsuc n} h = omega integers

pub square_zero : {a : ℤ} → a *ℤ a ≡ pos 0 → a ≡ pos 0
square_zero {a = pos zero} h = refl
square_zero {a = pos (suc n)} h = absurd (omega integers)
square_zero {a = negsuc n} h = absurd (omega integers)

pub negative_factor : (n : ℕ) {a : ℤ} → (pos n *ℤ a) <ℤ pos 0 → (0 < n) × (a <ℤ pos 0)
negative_factor zero {a} h = absurd (omega (arith, simp products at (up_lt h)))
negative_factor (suc n) {a = pos m} h = absurd (omega integers)
negative_factor (suc n) {a = negsuc m} h = omega integers

-- ---- bounds

pub nat_abs_is : (z : ℤ) → nat_abs z ≡ up z + down z
nat_abs_is (pos n) = omega arith
nat_abs_is (negsuc n) = omega arith

pub nat_abs_+ℤ : (a b : ℤ) → nat_abs (a +ℤ b) ≤ nat_abs a + nat_abs b
nat_abs_+ℤ a b = simp nat_abs_is (omega (arith, sum_is a b, one_side (a +ℤ b)))

pub nat_abs_*ℤ : (a b : ℤ) → nat_abs (a *ℤ b) ≡ nat_abs a * nat_abs b
nat_abs_*ℤ a b = simp (nat_abs_is, products) (omega arith)

pub nat_abs_negℤ : (a : ℤ) → nat_abs (neg_ℤ a) ≡ nat_abs a
nat_abs_negℤ a = simp (nat_abs_is, products) (omega arith)

mag_le : (z : ℤ) → mag z ≤ nat_abs z
mag_le (pos n) = omega arith
mag_le (negsuc n) = omega arith

pub sfits_nat_abs : {w : Width} {z : ℤ} → nat_abs z < 2 ^ hbits w → SFits w z
sfits_nat_abs {w} {z} h = omega (arith, mag_le z)

-- ---- bits

-- a signed local of a loop is its bits: they are those of the number as which they are read
pub bits_are : {w : Width} {n : ℕ} {z : ℤ} → Fits w n → to_z w n ≡ z → n ≡ of_z w z
bits_are {w} f e = sym (of_z-to_z f) ∙ ap (of_z w) e
