-- Numbers read and written, by computation. Assumes nothing.
use Rattle.std.specs.Prelude.{ℕ, List, [], ◌∷◌, map, ◌≡◌, refl, ℤ, pos, negsuc}
use Prim.Native.String.{String}
use Rattle.texts.specs.Decimals.{bytes, last_digits, decimal, numeral, separator}
use Rattle.texts.specs.Reading.{Parse, parsed, malformed, and_then, more_digits, read_natural, read_number}

-- ---- writing

numerals : List ℤ
numerals = pos 0 ∷ pos 9 ∷ pos 10 ∷ pos 10000 ∷ negsuc 0 ∷ negsuc 9999 ∷ []

numerals_written : map numeral numerals ≡ map bytes ("0" ∷ "9" ∷ "10" ∷ "10000" ∷ "-1" ∷ "-10000" ∷ [])
unfolding numerals last_digits decimal
numerals_written = refl

separators_written : map separator (0 ∷ 1 ∷ 2 ∷ []) ≡ 10 ∷ 32 ∷ 32 ∷ []
separators_written = refl

-- ---- reading

-- how many digits a number may have, a text, and what it begins with
abbrev Case : Type 0
Case = ℕ × String × Parse ℤ

as_read : List Case → List (Parse ℤ)
unfolding and_then more_digits read_natural read_number
as_read cases = map (λ (c : Case). read_number c.0 (bytes c.1)) cases

as_said : List Case → List (Parse ℤ)
as_said cases = map (λ (c : Case). c.2) cases

-- a number ends at the first byte that is no further digit of it; leading zeros and "-0" are not in the form
cases : List Case
cases =
    (6, "", malformed)
    ∷ (6, "x", malformed)
    ∷ (6, "-", malformed)
    ∷ (6, "--1", malformed)
    ∷ (6, "+1", malformed)
    ∷ (6, "-0", malformed)
    ∷ (6, "0", parsed (pos 0) [])
    ∷ (6, "01", parsed (pos 0) (bytes "1"))
    ∷ (6, "-10 2", parsed (negsuc 9) (bytes " 2"))
    ∷ (6, "999999", parsed (pos 999999) [])
    ∷ (6, "1000000", parsed (pos 100000) (bytes "0"))
    ∷ (5, "99999*", parsed (pos 99999) (bytes "*"))
    ∷ (5, "100000", parsed (pos 10000) (bytes "0"))
    ∷ []

cases_read : as_read cases ≡ as_said cases
unfolding as_read as_said cases
cases_read = refl
