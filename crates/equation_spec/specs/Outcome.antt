-- Request 3: what reading a text comes to. Assumes nothing.
use Rattle.std.specs.Prelude.{ℕ, zero, suc, not, ◌||◌, List, [], ◌∷◌, ltb, eqb, ℤ, length, max}
use Rattle.definitions.specs.Answers.{Check, refuse, go, ◌then◌, refuse_if, refuse_first}
use Rattle.definitions.specs.System.{most_unknowns}
use Rattle.definitions.specs.Refusals.{between, out_of_range}
use Rattle.texts.specs.Reading.{most_bytes, Parse, parsed, malformed}
use Rattle.equation_spec.specs.Grammar.{Equation}
use Rattle.equation_spec.specs.Meaning.{coefficient, right_side, sum_depth, sum_exceeds}
use Rattle.equation_spec.specs.Reader.{read_equation}
use Rattle.equation_spec.specs.Scan.{place}

-- A row and its right side; or refused by the papers' number, with the values that it comes with (16: the byte place; 7: the place in the row).
pub data Outcome : Type 0 where
  accepted : List ℤ → ℤ → Outcome
  refused : ℕ → List ℕ → Outcome

unfoldable pub checked : Check → Outcome → Outcome
checked (refuse n values) o = refused n values
checked go o = o

-- "at most eight deep"
abbrev pub most_depth : ℕ
most_depth = 8

-- the values of f at k, k + 1, .., n of them
unfoldable pub list : ℕ → ℕ → (ℕ → ℤ) → List ℤ
list zero k f = []
list (suc n) k f = f k ∷ list n (suc k) f

-- the coefficients of the unknowns 1 to q
abbrev pub row : ℕ → Equation → List ℤ
row q e = list q 1 (coefficient e)

-- "then 17, deeper than eight; then 18, product of the multipliers around a bracket above 10,000; then 7 and 15"
unfoldable pub limits : ℕ → Equation → Check
limits q e =
    refuse_if (ltb most_depth (max (sum_depth e.left) (sum_depth e.right))) 17
    then refuse_if (sum_exceeds e.left 1 || sum_exceeds e.right 1) 18
    then refuse_first 7 q (λ i. out_of_range (coefficient e (suc i)))
    then refuse_if (out_of_range (right_side e)) 15

-- "16, outside the grammar or an unknown above q, with the byte place"
unfoldable pub tree_outcome : ℕ → List ℕ → Parse Equation → Outcome
tree_outcome q t (parsed e r) = checked (limits q e) (accepted (row q e) (right_side e))
tree_outcome q t malformed = refused 16 (place q t ∷ [])

-- "10, 2 and 3 come first": a text for q unknowns, into a row of n numbers
unfoldable pub outcome : ℕ → ℕ → List ℕ → Outcome
outcome q n t =
    checked (refuse_if (ltb most_bytes (length t)) 10 then refuse_if (not (between 1 most_unknowns q)) 2 then refuse_if (not (eqb n q)) 3)
    (tree_outcome q t (read_equation q (length t) t))
