-- What the readers answer and what they ask. A place in a text stands for the text from there on. Assumes nothing.
use Rattle.std.specs.Prelude.{ℕ, ◌+◌, ◌*◌, ◌^◌, ◌≤◌, ◌<◌, ◌≡◌, true, false, List, Option, Some, None, length, get_or, drop}
use Rattle.texts.specs.Reading.{Parse, parsed, malformed, is_digit, digit}
use Rattle.texts.specs.declared.number.Parsed.{Parsed}

-- what was read, up to the place after it; or nothing in the form
abbrev pub parse_of : {A : Type 0} → List ℕ → Option (Parsed A) → Parse A
parse_of t (Some p) = parsed p.value (drop p.next t)
parse_of t None = malformed

-- the digit that stands at a place, or none
abbrev pub DigitAt : List ℕ → ℕ → Option ℕ → Type 0
DigitAt t at (Some d) = (at < length t) × (is_digit (get_or t at 0) ≡ true) × (d ≡ digit (get_or t at 0))
DigitAt t at None = at < length t → is_digit (get_or t at 0) ≡ false

-- a number of so many digits fits into a word of 32 bits, signed too
pub record FewDigits (most : ℕ) : Type 0 where
  pub some : 1 ≤ most
  pub few : most ≤ 9

-- n stays a number of most digits with k more
pub record Room (most n k : ℕ) : Type 0 where
  pub below : (n + 1) * 10 ^ k ≤ 10 ^ most
