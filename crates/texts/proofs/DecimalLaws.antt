-- Decimal digits: one more at the end, the first, and how many. Assumes nothing.
use Rattle.std.specs.Prelude.{ℕ, zero, suc, ◌+◌, ◌*◌, ◌/◌, ◌%◌, ◌^◌, ◌≤◌, ◌<◌, List, [], ◌∷◌, ◌++◌, ◌≡◌, length}
use Rattle.std.proofs.Common.{ap, arith, length-append, lt-ltb, le-ltb}
use Rattle.std.proofs.Math.Decide.{dec_lt}
use Rattle.texts.specs.Decimals.{zero_digit, last_digits, decimal}

-- n + 1 digits are as good as any larger number
digits_enough : (k j n : ℕ) → n < k → n < j → last_digits k n ≡ last_digits j n
unfolding last_digits
digits_enough zero j n l m = absurd (omega arith)
digits_enough (suc k) zero n l m = absurd (omega arith)
digits_enough (suc k) (suc j) n l m =
    elim (dec_lt n 10) [
      | yes h ↦ rw (lt-ltb n 10 h)
      | no h ↦ rw (le-ltb n 10 (omega arith), digits_enough k j (n / 10) (omega arith) (omega arith))
    ]

pub decimal_digit : (n : ℕ) → n < 10 → decimal n ≡ (zero_digit + n) ∷ []
unfolding decimal last_digits
decimal_digit n l = rw (lt-ltb n 10 l)

pub decimal_more : (n : ℕ) → 10 ≤ n → decimal n ≡ decimal (n / 10) ++ ((zero_digit + n % 10) ∷ [])
unfolding decimal last_digits
decimal_more n l = rw (le-ltb n 10 l, digits_enough n (suc (n / 10)) (n / 10) (omega arith) (omega arith))

pub decimal_next : (n d : ℕ) → 1 ≤ n → d ≤ 9 → decimal (n * 10 + d) ≡ decimal n ++ ((zero_digit + d) ∷ [])
decimal_next n d l m =
    let a : (n * 10 + d) / 10 ≡ n = omega arith in
    let b : (n * 10 + d) % 10 ≡ d = omega arith in
    rw (a, b) at (decimal_more (n * 10 + d) (omega arith))

-- ---- by the digits, the last digit last

digits_within : (P : ℕ → Type 0) → ((n : ℕ) → n < 10 → P n) → ((n : ℕ) → 10 ≤ n → P (n / 10) → P n) → (k n : ℕ) → n < k → P n
digits_within P one more zero n l = absurd (omega arith)
digits_within P one more (suc k) n l =
    elim (dec_lt n 10) [ yes h ↦ one n h | no h ↦ more n (omega arith) (digits_within P one more k (n / 10) (omega arith)) ]

pub by_digits : (P : ℕ → Type 0) → ((n : ℕ) → n < 10 → P n) → ((n : ℕ) → 10 ≤ n → P (n / 10) → P n) → (n : ℕ) → P n
by_digits P one more n = digits_within P one more (suc n) n (omega arith)

-- ---- the first digit

-- the first digit d, and the others
pub record Begins (n : ℕ) : Type 0 where
  pub d : ℕ
  pub others : List ℕ
  pub most : d ≤ 9
  pub some : 1 ≤ n → 1 ≤ d
  pub digits : decimal n ≡ (zero_digit + d) ∷ others

pub begins : (n : ℕ) → Begins n
begins =
    by_digits
    Begins
    (λ n l. record { d = n; others = []; most = omega arith; some = λ h. h; digits = decimal_digit n l })
    (λ n l b. record {
      d = b.d;
      others = b.others ++ ((zero_digit + n % 10) ∷ []);
      most = b.most;
      some = λ h. b.some (omega arith);
      digits = rw (decimal_more n l, b.digits);
    })

-- a number and what follows it, by its first digit
pub by_first : (n : ℕ) (b : Begins n) (t : List ℕ) → decimal n ++ t ≡ (zero_digit + b.d) ∷ (b.others ++ t)
by_first n b t = ap (λ (x : List ℕ). x ++ t) b.digits

-- ---- how many digits

pub digits_one : (n : ℕ) → n < 10 → length (decimal n) ≡ 1
digits_one n l = ap length (decimal_digit n l)

pub digits_more : (n : ℕ) → 10 ≤ n → length (decimal n) ≡ length (decimal (n / 10)) + 1
digits_more n l = rw (decimal_more n l, length-append)

pub digits_most : (j n : ℕ) → n < 10 ^ suc j → length (decimal n) ≤ suc j
digits_most zero n l = rw (decimal_digit n (omega arith)) (omega arith)
digits_most (suc j) n l =
    elim (dec_lt n 10) [
      | yes h ↦ rw (decimal_digit n h) (omega arith)
      | no h ↦ rw (decimal_more n (omega arith), length-append) (omega (arith, digits_most j (n / 10) (omega arith)))
    ]

pub digits_32 : (n : ℕ) → n < 2 ^ 32 → length (decimal n) ≤ 10
digits_32 n l = digits_most 9 n (omega arith)

pub digits_64 : (n : ℕ) → n < 2 ^ 64 → length (decimal n) ≤ 20
digits_64 n l = digits_most 19 n (omega arith)
