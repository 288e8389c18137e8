-- Document 01, "The program": how a map is written. A text is the list of its bytes. Assumes nothing.
use Rattle.std.specs.Prelude.{ℕ, zero, suc, ◌*◌, ◌^◌, ◌≤◌, ◌<◌, List, [], ◌∷◌, ◌++◌, ◌≡◌, ℤ, pos, nat_abs, length, get_or, take, drop}
use Rattle.definitions.specs.System.{most_equations, most_unknowns, coef_limit}
use Rattle.texts.specs.Decimals.{numeral, separator}

-- ---- numbers and lines

-- "A number is an optional minus and 1 to 6 digits without leading zeros"
abbrev pub most_digits : ℕ
most_digits = 6

abbrev pub ShortNumbers : List ℤ → Type 0
ShortNumbers zs = (i : ℕ) → i < length zs → nat_abs (get_or zs i (pos 0)) < 10 ^ most_digits

-- a line of these numbers
unfoldable pub line : List ℤ → List ℕ
line [] = []
line (z ∷ zs) = numeral z ++ separator (length zs) ∷ line zs

-- "p lines of q numbers": the coefficients "row by row"
unfoldable pub lines : ℕ → ℕ → List ℤ → List ℕ
lines zero q coefs = []
lines (suc p) q coefs = line (take q coefs) ++ lines p q (drop q coefs)

-- "a line "p q", then p lines of q numbers, .. nothing after."
unfoldable pub written : ℕ → ℕ → List ℤ → List ℕ
written p q coefs = line (pos p ∷ pos q ∷ []) ++ lines p q coefs

-- ---- the maps that are written so

-- "Coefficients are whole numbers from −10,000 to 10,000"
abbrev pub CoefsInRange : List ℤ → Type 0
CoefsInRange coefs = (i : ℕ) → i < length coefs → nat_abs (get_or coefs i (pos 0)) ≤ coef_limit

-- "p equations, 1 to 8. q unknowns, 1 to 16. Coefficients .. given row by row, p × q of them."
pub record MapInRange (p q : ℕ) (coefs : List ℤ) : Type 0 where
  pub p_some : 1 ≤ p
  pub p_few : p ≤ most_equations
  pub q_some : 1 ≤ q
  pub q_few : q ≤ most_unknowns
  pub count : length coefs ≡ p * q
  pub range : CoefsInRange coefs
