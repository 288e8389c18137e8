-- A number that is written is read back, where no digit follows it. Assumes nothing.
use Rattle.std.specs.Prelude.{ℕ, zero, suc, ◌+◌, ◌*◌, ◌-◌, ◌/◌, ◌%◌, ◌^◌, ◌≤◌, ◌<◌, false, true, List, ◌∷◌, ◌++◌, ◌≡◌, refl, ℤ, pos, negsuc, nat_abs, length}
use Rattle.std.proofs.Common.{sym, ap, ◌∙◌, arith, length-append, le-leb, ne_eqb}
use Rattle.std.proofs.Math.Seq.{append_snoc}
use Rattle.texts.specs.Decimals.{minus, zero_digit, decimal, numeral, separator}
use Rattle.texts.specs.Reading.{parsed, and_then, is_digit, digit, starts_digit, more_digits, read_natural, unsigned, read_number}
use Rattle.texts.proofs.NumberLaws.{digits_end}
use Rattle.texts.proofs.DecimalLaws.{decimal_digit, decimal_more, by_digits, begins, by_first, digits_most}

pub digit_is : (d : ℕ) → d ≤ 9 → is_digit (zero_digit + d) ≡ true
digit_is d l = rw (le-leb zero_digit (zero_digit + d) (omega arith), le-leb (zero_digit + d) (zero_digit + 9) (omega arith))

pub digit_of : (d : ℕ) → digit (zero_digit + d) ≡ d
digit_of d = omega arith

-- one digit more
more_one : (k n d : ℕ) (t : List ℕ) → d ≤ 9 → more_digits (suc k) n ((zero_digit + d) ∷ t) ≡ more_digits k (n * 10 + d) t
unfolding more_digits
more_one k n d t l = rw (digit_is d l, digit_of d)

-- all digits of n are read, and n is their value
abbrev Digits : ℕ → Type 0
Digits n = (k : ℕ) (t : List ℕ) → length (decimal n) ≤ k → more_digits k 0 (decimal n ++ t) ≡ more_digits (k - length (decimal n)) n t

digits_one : (n : ℕ) → n < 10 → Digits n
digits_one n l zero t h = absurd (omega (arith, ap length (decimal_digit n l)))
digits_one n l (suc k) t h =
    let e : 0 * 10 + n ≡ n = omega arith in
    let s : suc k - 1 ≡ k = omega arith in
    rw (decimal_digit n l, more_one k 0 n t (omega arith), e, s)

digits_last : (n : ℕ) → 10 ≤ n → Digits (n / 10) → Digits n
digits_last n l ih k t h =
    let m : length (decimal n) ≡ length (decimal (n / 10)) + 1 = ap length (decimal_more n l) ∙ length-append (decimal (n / 10)) _ in
    let e : n / 10 * 10 + n % 10 ≡ n = omega arith in
    let s : k - length (decimal (n / 10)) ≡ suc (k - length (decimal n)) = omega arith in
    rw (decimal_more n l, append_snoc, ih k _ (omega arith), s, more_one _ (n / 10) (n % 10) t (omega arith), e)
    (ap (λ (x : List ℕ). more_digits (k - length x) n t) (decimal_more n l))

digits_back : (n : ℕ) → Digits n
digits_back = by_digits Digits digits_one digits_last

-- the first digit of a number above 0 is followed by up to k
first_of : (k d : ℕ) (t : List ℕ) → 1 ≤ d → d ≤ 9 → read_natural (suc k) ((zero_digit + d) ∷ t) ≡ more_digits (suc k) 0 ((zero_digit + d) ∷ t)
unfolding read_natural
first_of k zero t l m = absurd (omega arith)
first_of k (suc d) t l m =
    let e : 0 * 10 + suc d ≡ suc d = omega arith in
    rw (more_one k 0 (suc d) t m, digit_is (suc d) m, digit_of (suc d), e)

-- a number of up to k + 1 digits
pub natural_back : (k n : ℕ) (t : List ℕ) → n < 10 ^ suc k → starts_digit t ≡ false → read_natural (suc k) (decimal n ++ t) ≡ parsed n t
unfolding read_natural more_digits
natural_back k zero t l e = rw (decimal_digit 0 (omega arith))
natural_back k (suc n) t l e =
    let b = begins (suc n) in
    let w = by_first (suc n) b t in
    ap (read_natural (suc k)) w
    ∙ first_of k b.d _ (b.some (omega arith)) b.most
    ∙ ap (more_digits (suc k) 0) (sym w)
    ∙ digits_back (suc n) (suc k) t (digits_most k (suc n) l)
    ∙ digits_end (suc k - length (decimal (suc n))) (suc n) t e

no_minus : (most d : ℕ) (t : List ℕ) → read_number most ((zero_digit + d) ∷ t) ≡ and_then (read_natural most ((zero_digit + d) ∷ t)) unsigned
unfolding read_number
no_minus most d t = rw (ne_eqb (zero_digit + d) minus (omega arith))

pub number_back : (k : ℕ) (z : ℤ) (t : List ℕ) → nat_abs z < 10 ^ suc k → starts_digit t ≡ false → read_number (suc k) (numeral z ++ t) ≡ parsed z t
unfolding read_number and_then
number_back k (pos n) t l e =
    let b = begins n in
    let w = by_first n b t in
    ap (read_number (suc k)) w ∙ no_minus (suc k) b.d _ ∙ rw (← w, natural_back k n t l e)
number_back k (negsuc n) t l e = rw (natural_back k (suc n) t l e)

-- what separates numbers is no digit
pub separator_ends : (k : ℕ) → is_digit (separator k) ≡ false
separator_ends zero = refl
separator_ends (suc k) = refl
