-- How a number at the beginning of a text is read. Assumes nothing.
use Rattle.std.specs.Prelude.{ℕ, zero, suc, ◌+◌, ◌*◌, ◌-◌, Bool, false, ◌&&◌, cond, List, [], ◌∷◌, leb, eqb, ℤ, pos, negsuc}
use Rattle.texts.specs.Decimals.{minus, zero_digit}

-- "10: text longer than 4,096 bytes."
abbrev pub most_bytes : ℕ
most_bytes = 4096

-- What a text begins with: something in the form, and the text after it; or nothing in the form.
pub data Parse (A : Type 0) : Type 0 where
  parsed : A → List ℕ → Parse A
  malformed : Parse A

-- one thing after another
unfoldable pub and_then : {A B : Type 0} → Parse A → (A → List ℕ → Parse B) → Parse B
and_then (parsed a t) f = f a t
and_then malformed f = malformed

-- ---- digits

abbrev pub is_digit : ℕ → Bool
is_digit b = leb zero_digit b && leb b (zero_digit + 9)

abbrev pub digit : ℕ → ℕ
digit b = b - zero_digit

abbrev pub starts_digit : List ℕ → Bool
starts_digit [] = false
starts_digit (b ∷ t) = is_digit b

-- the number that n becomes by up to k more digits
unfoldable pub more_digits : ℕ → ℕ → List ℕ → Parse ℕ
more_digits zero n t = parsed n t
more_digits (suc k) n [] = parsed n []
more_digits (suc k) n (b ∷ t) = cond (is_digit b) (more_digits k (n * 10 + digit b) t) (parsed n (b ∷ t))

-- ---- a number

-- "1 to" most "digits without leading zeros": how many may follow the first, none if that is 0
abbrev pub may_follow : ℕ → ℕ → ℕ
may_follow most zero = 0
may_follow zero (suc d) = 0
may_follow (suc k) (suc d) = k

unfoldable pub read_natural : ℕ → List ℕ → Parse ℕ
read_natural most [] = malformed
read_natural most (b ∷ t) = cond (is_digit b) (more_digits (may_follow most (digit b)) (digit b) t) malformed

abbrev pub unsigned : ℕ → List ℕ → Parse ℤ
unsigned n t = parsed (pos n) t

-- ""-0" is not in the form"
abbrev pub negative : ℕ → List ℕ → Parse ℤ
negative zero t = malformed
negative (suc n) t = parsed (negsuc n) t

-- "A number is an optional minus and 1 to" most "digits"
unfoldable pub read_number : ℕ → List ℕ → Parse ℤ
read_number most [] = malformed
read_number most (b ∷ t) = cond (eqb b minus) (and_then (read_natural most t) negative) (and_then (read_natural most (b ∷ t)) unsigned)
