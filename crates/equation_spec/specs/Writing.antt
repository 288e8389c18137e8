-- Request 3: how a row is written. "A writer puts a row back as "-2*x1 + x3 = -3": no bracket, no 1*, unknowns rising, zero coefficients left out
-- (0 if none is left)". Assumes nothing.
use Rattle.std.specs.Prelude.{ℕ, zero, suc, List, [], ◌∷◌, ◌++◌, not, ltb, eqb, ℤ, pos, negsuc, length, get_or, drop}
use Rattle.definitions.specs.Answers.{Check, refuse, go, ◌then◌, refuse_if, refuse_first}
use Rattle.definitions.specs.System.{most_unknowns}
use Rattle.definitions.specs.Refusals.{between, out_of_range}
use Rattle.texts.specs.Decimals.{space, decimal}
use Rattle.texts.specs.Decimals as texts
use Rattle.equation_spec.specs.Grammar.{Sign, plus, minus, letter, star_byte, equals_byte, sign_byte}

-- a multiple of unknown k: "no 1*"
abbrev pub multiple : ℕ → ℕ → List ℕ
multiple zero k = []
multiple (suc zero) k = letter ∷ decimal k
multiple (suc (suc n)) k = decimal (suc (suc n)) ++ (star_byte ∷ letter ∷ decimal k)

-- a sign between two terms
abbrev pub spaced_sign : Sign → List ℕ
spaced_sign s = space ∷ sign_byte s ∷ space ∷ []

-- the coefficients from unknown k on, after a term
unfoldable pub later_terms : ℕ → List ℤ → List ℕ
later_terms k [] = []
later_terms k (pos zero ∷ zs) = later_terms (suc k) zs
later_terms k (pos (suc n) ∷ zs) = (spaced_sign plus ++ multiple (suc n) k) ++ later_terms (suc k) zs
later_terms k (negsuc n ∷ zs) = (spaced_sign minus ++ multiple (suc n) k) ++ later_terms (suc k) zs

-- the coefficients from unknown k on, before any term
unfoldable pub terms : ℕ → List ℤ → List ℕ
terms k [] = decimal 0
terms k (pos zero ∷ zs) = terms (suc k) zs
terms k (pos (suc n) ∷ zs) = multiple (suc n) k ++ later_terms (suc k) zs
terms k (negsuc n ∷ zs) = (sign_byte minus ∷ multiple (suc n) k) ++ later_terms (suc k) zs

-- a row of coefficients and a right side
unfoldable pub written : List ℤ → ℤ → List ℕ
written row right = terms 1 row ++ (space ∷ equals_byte ∷ space ∷ texts.numeral right)

-- ---- the call

-- "The writer gives 2, 3, 7, 15, then 29, output space too short.": a row for q unknowns, into so many bytes
unfoldable pub write_checks : ℕ → List ℤ → ℤ → ℕ → Check
write_checks q row right bytes =
    refuse_if (not (between 1 most_unknowns q)) 2
    then refuse_if (not (eqb (length row) q)) 3
    then refuse_first 7 (length row) (λ i. out_of_range (get_or row i (pos 0)))
    then refuse_if (out_of_range right) 15
    then refuse_if (ltb bytes (length (written row right))) 29

-- how many bytes were written, or the refusal's number and values; and the space as it is left
pub data Wrote : Type 0 where
  wrote : ℕ → List ℕ → Wrote
  refused : ℕ → List ℕ → List ℕ → Wrote

-- "Space lent for output keeps what stood past the written part."; a refusal changes nothing lent
unfoldable pub put_out : Check → List ℕ → List ℕ → Wrote
put_out (refuse n values) text out = refused n values out
put_out go text out = wrote (length text) (text ++ drop (length text) out)

unfoldable pub write : ℕ → List ℤ → ℤ → List ℕ → Wrote
write q row right out = put_out (write_checks q row right (length out)) (written row right) out
