-- A number that was read stands in the text as it is written. Assumes nothing.
use Rattle.std.specs.Prelude.{ℕ, zero, suc, ◌+◌, ◌*◌, ◌≤◌, List, [], ◌∷◌, ◌++◌, ◌≡◌, eqb, ℤ}
use Rattle.std.proofs.Common.{sym, ◌∙◌, arith, eqb-true}
use Rattle.std.proofs.Math.Seq.{append_snoc}
use Rattle.texts.specs.Decimals.{minus, zero_digit, decimal, numeral}
use Rattle.texts.specs.Reading.{parsed, is_digit, digit, more_digits, may_follow, read_natural, negative, unsigned, read_number}
use Rattle.texts.proofs.ParseLaws.{not_parsed, same, cond_cases, and_then_lem}
use Rattle.texts.proofs.NumberLaws.{digit_range}
use Rattle.texts.proofs.DecimalLaws.{decimal_digit, decimal_next}

-- a byte is the digit that it stands for
pub digit_byte : (b : ℕ) → zero_digit ≤ b → zero_digit + digit b ≡ b
digit_byte b l = omega arith

digits_read : (k n : ℕ) (t : List ℕ) {m : ℕ} {r : List ℕ} → 1 ≤ n → more_digits k n t ≡ parsed m r → decimal n ++ t ≡ decimal m ++ r
unfolding more_digits
digits_read zero n t l e = let (a, c) = same e in rw (a, c)
digits_read (suc k) n [] l e = let (a, c) = same e in rw (a, ← c)
digits_read (suc k) n (b ∷ t) l e =
    cond_cases (is_digit b) e
    (λ d f.
    let (low, high) = digit_range b d in
    let g = digits_read k (n * 10 + digit b) t (omega arith) f in
    rw (decimal_next n (digit b) l high, digit_byte b low, append_snoc) at g)
    (λ d f. let (a, c) = same f in rw (a, ← c))

first_read : (most b : ℕ) (t : List ℕ) (d : ℕ) {m : ℕ} {r : List ℕ} → d ≤ 9 → b ≡ zero_digit + d
    → more_digits (may_follow most d) d t ≡ parsed m r → b ∷ t ≡ decimal m ++ r
unfolding more_digits
first_read most b t zero l h e = let (a, c) = same e in rw (h, ← a, c, decimal_digit 0 (omega arith))
first_read most b t (suc d) l h e = rw (h, ← digits_read (may_follow most (suc d)) (suc d) t (omega arith) e, decimal_digit (suc d) (omega arith))

pub natural_read : (most : ℕ) (t : List ℕ) {m : ℕ} {r : List ℕ} → read_natural most t ≡ parsed m r → t ≡ decimal m ++ r
unfolding read_natural
natural_read most [] e = not_parsed e
natural_read most (b ∷ t) e =
    cond_cases (is_digit b) e
    (λ d f. let (low, high) = digit_range b d in first_read most b t (digit b) high (sym (digit_byte b low)) f)
    (λ d f. not_parsed f)

negative_read : (n : ℕ) (t : List ℕ) {z : ℤ} {r : List ℕ} → negative n t ≡ parsed z r → minus ∷ (decimal n ++ t) ≡ numeral z ++ r
negative_read zero t e = not_parsed e
negative_read (suc n) t e = let (a, c) = same e in rw (← a, c)

unsigned_read : (n : ℕ) (t : List ℕ) {z : ℤ} {r : List ℕ} → unsigned n t ≡ parsed z r → decimal n ++ t ≡ numeral z ++ r
unsigned_read n t e = let (a, c) = same e in rw (← a, c)

pub number_read : (most : ℕ) (t : List ℕ) {z : ℤ} {r : List ℕ} → read_number most t ≡ parsed z r → t ≡ numeral z ++ r
unfolding read_number
number_read most [] e = not_parsed e
number_read most (b ∷ t) e =
    cond_cases (eqb b minus) e
    (λ d f.
    let (n, s, g, h) = and_then_lem (read_natural most t) negative f in
    rw (eqb-true b minus d, natural_read most t g) (negative_read n s h))
    (λ d f.
    let (n, s, g, h) = and_then_lem (read_natural most (b ∷ t)) unsigned f in
    natural_read most (b ∷ t) g ∙ unsigned_read n s h)
