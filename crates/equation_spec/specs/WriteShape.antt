-- Request 3: what is written, term by term. "A writer puts a row back as "-2*x1 + x3 = -3": no bracket, no 1*, unknowns rising, zero coefficients left out
-- (0 if none is left)". That the reader gives the row again: RoundTrip. Assumes nothing.
use Rattle.std.specs.Prelude.{◌≡◌, ◌≢◌, List, [], ◌∷◌, ◌++◌, ℕ, suc, ℤ, pos, negsuc, nat_abs}
use Rattle.texts.specs.Decimals.{decimal, space}
use Rattle.texts.specs.Decimals as texts
use Rattle.equation_spec.specs.Grammar.{equals_byte, letter, minus, plus, sign_byte}
use Rattle.equation_spec.specs.Writing.{multiple, spaced_sign, written}

-- the coefficients from unknown k on, and which of them are written, with their unknowns: those that are not zero, "unknowns rising"
pub data Terms : ℕ → List ℤ → List (ℕ × ℤ) → Type 0 where
  end : {k : ℕ} → Terms k [] []
  left_out : {k : ℕ} {row : List ℤ} {ts : List (ℕ × ℤ)} → Terms (suc k) row ts → Terms k (pos 0 ∷ row) ts
  put : {k : ℕ} {z : ℤ} {row : List ℤ} {ts : List (ℕ × ℤ)} → z ≢ pos 0 → Terms (suc k) row ts → Terms k (z ∷ row) ((k, z) ∷ ts)

-- the sign of a term: of the first only a minus, of a later one with spaces around it
abbrev pub lead_sign : ℤ → List ℕ
lead_sign (pos n) = []
lead_sign (negsuc n) = sign_byte minus ∷ []

abbrev pub later_sign : ℤ → List ℕ
later_sign (pos n) = spaced_sign plus
later_sign (negsuc n) = spaced_sign minus

unfoldable pub later_text : List (ℕ × ℤ) → List ℕ
later_text [] = []
later_text ((k, z) ∷ ts) = (later_sign z ++ multiple (nat_abs z) k) ++ later_text ts

unfoldable pub left_text : List (ℕ × ℤ) → List ℕ
left_text [] = decimal 0
left_text ((k, z) ∷ ts) = (lead_sign z ++ multiple (nat_abs z) k) ++ later_text ts

pub record Shape (row : List ℤ) (right : ℤ) : Type 0 where
  pub put_down : List (ℕ × ℤ)
  pub are : Terms 1 row put_down
  pub no_one_times : (k : ℕ) → multiple 1 k ≡ letter ∷ decimal k
  pub is : written row right ≡ left_text put_down ++ (space ∷ equals_byte ∷ space ∷ texts.numeral right)
