-- How a number is read, byte by byte, and how large it can be. Assumes nothing.
use Prim.Native.Nat.{ℕ, zero, suc, ◌+◌, ◌*◌, ◌-◌, ◌^◌, ◌≤◌, ◌<◌}
use Rattle.std.specs.Prelude.{true, false, List, [], ◌∷◌, ◌≡◌, leb, eqb, ℤ, nat_abs, length, get_or, drop}
use Rattle.std.proofs.Math.Path.{refl}
use Rattle.std.proofs.Common.{mul-le-mul_left, mul-le-mul_right, add-one, leb→le, drop_of_length-le, drop-cons}
use Rattle.std.proofs.Math.Nat.{one-le-pow, pow-le-pow_right, pow-succ'}
use native.Mathlib.Omega.{arith}
use borrow.Author.Tests.{ne_eqb}
use Rattle.std.proofs.Math.Decide.{dec_lt}
use Rattle.linear.proofs.TestLaws.{and_parts}
use Rattle.texts.specs.Decimals.{minus, zero_digit}
use Rattle.texts.specs.Reading.{parsed, malformed, is_digit, digit, starts_digit, more_digits, may_follow, read_natural, negative, unsigned, read_number}
use Rattle.texts.specs.Reading.{and_then}
use Rattle.texts.proofs.ParseLaws.{not_parsed, same, cond_cases, and_then_lem}
use Rattle.texts.specs.Places.{FewDigits, Room}

-- the text from a place on: its first byte, and the text after it
pub byte_at : (t : List ℕ) (i : ℕ) → i < length t → drop i t ≡ get_or t i 0 ∷ drop (i + 1) t
byte_at t i l = rw (add-one, drop-cons t i 0)

pub digit_range : (b : ℕ) → is_digit b ≡ true → (zero_digit ≤ b) × (digit b ≤ 9)
digit_range b e = let (l, m) = and_parts (leb zero_digit b) (leb b 57) (rw e tt) in (leb→le 48 b l, omega (arith, leb→le b 57 m))

-- ---- the digits after the first

pub digits_end : (k n : ℕ) (t : List ℕ) → starts_digit t ≡ false → more_digits k n t ≡ parsed n t
unfolding more_digits
digits_end zero n t e = refl
digits_end (suc k) n [] e = refl
digits_end (suc k) n (b ∷ t) e = rw e

-- from place i of the text on
module _ (t : List ℕ) (i n : ℕ) where
  pub more_none : (k : ℕ) → k ≤ 0 → parsed n (drop i t) ≡ more_digits k n (drop i t)
  unfolding more_digits
  more_none zero l = refl
  more_none (suc k) l = absurd (omega arith)

  pub more_stop : (k : ℕ) → (i < length t → is_digit (get_or t i 0) ≡ false) → parsed n (drop i t) ≡ more_digits k n (drop i t)
  unfolding more_digits
  more_stop zero e = refl
  more_stop (suc k) e =
      elim (dec_lt i (length t)) [
        | yes l ↦ rw (byte_at t i l, digits_end (suc k) n (get_or t i 0 ∷ drop (i + 1) t) (e l))
        | no l ↦ let m : length t ≤ i = omega arith in rw (drop_of_length-le t m)
      ]

  pub more_digit : (k : ℕ) → 0 < k → i < length t → is_digit (get_or t i 0) ≡ true
      → more_digits (k - 1) (n * 10 + digit (get_or t i 0)) (drop (i + 1) t) ≡ more_digits k n (drop i t)
  unfolding more_digits
  more_digit zero m l e = absurd (omega arith)
  more_digit (suc k) m l e = let s : suc k - 1 ≡ k = omega arith in rw (s, byte_at t i l, e)

-- ---- a number of most digits, from place i of the text on

module _ (most : ℕ) (t : List ℕ) (i : ℕ) where
  pub natural_stop : (i < length t → is_digit (get_or t i 0) ≡ false) → malformed ≡ read_natural most (drop i t)
  unfolding read_natural
  natural_stop e =
      elim (dec_lt i (length t)) [
        | yes l ↦ rw (byte_at t i l, e l)
        | no l ↦ let m : length t ≤ i = omega arith in rw (drop_of_length-le t m)
      ]

  pub natural_first : i < length t → is_digit (get_or t i 0) ≡ true
      → more_digits (may_follow most (digit (get_or t i 0))) (digit (get_or t i 0)) (drop (i + 1) t) ≡ read_natural most (drop i t)
  unfolding read_natural
  natural_first l e = rw (byte_at t i l, e)

  pub number_end : length t ≤ i → malformed ≡ read_number most (drop i t)
  unfolding read_number
  number_end l = rw (drop_of_length-le t l)

  pub number_minus : i < length t → get_or t i 0 ≡ minus → and_then (read_natural most (drop (i + 1) t)) negative ≡ read_number most (drop i t)
  unfolding read_number
  number_minus l e = rw (byte_at t i l, e)

  pub number_digits : i < length t → (get_or t i 0 ≡ minus → ⊥) → and_then (read_natural most (drop i t)) unsigned ≡ read_number most (drop i t)
  unfolding read_number
  number_digits l e = rw (byte_at t i l, ne_eqb _ minus e)

-- ---- how large a number of most digits is

pub few_small : {most : ℕ} → FewDigits most → 10 ^ most ≤ 1000000000
few_small {most} f = pow-le-pow_right {n = 10} (omega arith) {i = most} {j = 9} f.few

pub room_small : {most n k : ℕ} → Room most n k → n < 10 ^ most
room_small {n = n} {k = k} r = omega (arith, r.below, mul-le-mul_left {m = 1} {n = 10 ^ k} (n + 1) (one-le-pow k 10 (omega arith)))

pub room_digit : {most n k : ℕ} (d : ℕ) → d ≤ 9 → Room most n (suc k) → Room most (n * 10 + d) k
room_digit {n = n} {k = k} d l r = record { below = omega (arith, rw (pow-succ' 10 k) at r.below, mul-le-mul_right (10 ^ k) l) }

pub room_next : (most n k d : ℕ) → 0 < k → d ≤ 9 → Room most n k → Room most (n * 10 + d) (k - 1)
room_next most n zero d l m r = absurd (omega arith)
room_next most n (suc k) d l m r = let s : suc k - 1 ≡ k = omega arith in rw s (room_digit d m r)

pub room_first : (most d : ℕ) → FewDigits most → d ≤ 9 → Room most d (may_follow most d)
room_first most zero f l = record { below = omega (arith, one-le-pow most 10 (omega arith)) }
room_first zero (suc d) f l = absurd (omega (arith, f.some))
room_first (suc k) (suc d) f l = record { below = rw (pow-succ' 10 k) (mul-le-mul_right (10 ^ k) (omega arith)) }

-- with its minus a number is as large as without
signed_below : {m : ℕ} (n : ℕ) (t : List ℕ) {z : ℤ} {r : List ℕ} → n < m → negative n t ≡ parsed z r → nat_abs z < m
signed_below zero t l e = not_parsed e
signed_below (suc n) t l e = rw (← (same e).0) l

more_small : {most : ℕ} (k n : ℕ) (t : List ℕ) {m : ℕ} {r : List ℕ} → Room most n k → more_digits k n t ≡ parsed m r → m < 10 ^ most
unfolding more_digits
more_small zero n t a e = rw (same e).0 at (room_small a)
more_small (suc k) n [] a e = rw (same e).0 at (room_small a)
more_small (suc k) n (b ∷ t) a e =
    cond_cases (is_digit b) e
    (λ d f. more_small k (n * 10 + digit b) t (room_digit (digit b) (digit_range b d).1 a) f)
    (λ d f. rw (same f).0 at (room_small a))

pub natural_below : {most : ℕ} (t : List ℕ) {m : ℕ} {r : List ℕ} → FewDigits most → read_natural most t ≡ parsed m r → m < 10 ^ most
unfolding read_natural
natural_below [] f e = not_parsed e
natural_below {most} (b ∷ t) f e =
    cond_cases (is_digit b) e
    (λ d g. more_small (may_follow most (digit b)) (digit b) t (room_first most (digit b) f (digit_range b d).1) g)
    (λ d g. not_parsed g)

pub number_below : {most : ℕ} (t : List ℕ) {z : ℤ} {r : List ℕ} → FewDigits most → read_number most t ≡ parsed z r → nat_abs z < 10 ^ most
unfolding read_number
number_below [] f e = not_parsed e
number_below {most} (b ∷ t) f e =
    cond_cases (eqb b minus) e
    (λ d g. let (n, s, h, i) = and_then_lem (read_natural most t) negative g in signed_below n s (natural_below t f h) i)
    (λ d g. let (n, s, h, i) = and_then_lem (read_natural most (b ∷ t)) unsigned g in rw (← (same i).0) (natural_below (b ∷ t) f h))

pub natural_small : {most : ℕ} (t : List ℕ) {m : ℕ} {r : List ℕ} → FewDigits most → read_natural most t ≡ parsed m r → m < 1000000000
natural_small t f e = omega (arith, natural_below t f e, few_small f)
