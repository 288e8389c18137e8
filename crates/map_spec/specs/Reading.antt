-- Document 01, "The program": how a text is read, and when it is refused. Assumes nothing.
use Rattle.std.specs.Prelude.{ℕ, zero, suc, Bool, true, not, cond, List, [], ◌∷◌, ◌++◌, ltb, eqb, ℤ, pos, negsuc, nat_abs, length, get_or}
use Rattle.definitions.specs.Answers.{Check, refuse, go, ◌then◌, refuse_if}
use Rattle.definitions.specs.Input.{input_of}
use Rattle.definitions.specs.System.{most_equations, most_unknowns}
use Rattle.definitions.specs.Refusals.{between, check7}
use Rattle.texts.specs.Decimals.{separator}
use Rattle.texts.specs.Reading.{most_bytes, Parse, parsed, malformed, and_then, read_number}
use Rattle.map_spec.specs.Form.{most_digits}

-- ---- a line

-- z, if the text goes on with the byte s
abbrev pub ended_by : ℕ → ℤ → List ℕ → Parse ℤ
ended_by s z [] = malformed
ended_by s z (b ∷ t) = cond (eqb b s) (parsed z t) malformed

-- a number that k numbers of its line follow: "single spaces, each line ended by a newline"
unfoldable pub read_field : ℕ → List ℕ → Parse ℤ
read_field k t = and_then (read_number most_digits t) (ended_by (separator k))

-- a line of k numbers, which come after the numbers zs
unfoldable pub read_line : ℕ → List ℤ → List ℕ → Parse (List ℤ)
read_line zero zs t = parsed zs t
read_line (suc k) zs t = and_then (read_field k t) (λ z. read_line k (zs ++ (z ∷ [])))

-- ---- the other lines

-- All coefficients; or the number of the first line that is not in the form.
pub data Rows : Type 0 where
  rows : List ℤ → Rows
  malformed_at : ℕ → Rows

-- line n was read, or not
abbrev pub at_line : ℕ → Parse (List ℤ) → (List ℤ → List ℕ → Rows) → Rows
at_line n (parsed zs t) f = f zs t
at_line n malformed f = malformed_at n

-- "the other lines in turn, missing or extra ones included (9, a missing line by the number it would have)": k lines of q numbers, from line n on
unfoldable pub read_rows : ℕ → ℕ → ℕ → List ℤ → List ℕ → Rows
read_rows zero q n zs [] = rows zs
read_rows zero q n zs (b ∷ t) = malformed_at n
read_rows (suc k) q n zs t = at_line n (read_line q zs t) (read_rows k q (suc n))

-- ---- the map

-- What a text is read as: a map, by p, q and its coefficients; or refused by document 01's number, with the values that it comes with (9: the
-- line; 7: the place).
pub data Reading : Type 0 where
  accepted : ℕ → ℕ → List ℤ → Reading
  refused : ℕ → List ℕ → Reading

unfoldable pub checked : Check → Reading → Reading
checked (refuse n values) r = refused n values
checked go r = r

-- "7: a coefficient outside its range, with the place of the first, from 1, row by row. .. 9: a text line not in the form below, with its number."
unfoldable pub accept_rows : ℕ → ℕ → Rows → Reading
accept_rows p q (rows coefs) = checked (check7 (input_of p q coefs)) (accepted p q coefs)
accept_rows p q (malformed_at n) = refused 9 (n ∷ [])

-- a count outside 1 to b
abbrev pub outside : ℕ → ℤ → Bool
outside b (pos n) = not (between 1 b n)
outside b (negsuc n) = true

-- "1: p outside 1 to 8. 2: q outside 1 to 16."; then the text after the first line
unfoldable pub read_body : ℤ → ℤ → List ℕ → Reading
read_body p q t =
    checked (refuse_if (outside most_equations p) 1 then refuse_if (outside most_unknowns q) 2)
    (accept_rows (nat_abs p) (nat_abs q) (read_rows (nat_abs p) (nat_abs q) 2 [] t))

-- "the first line's form (9)"
abbrev pub after_first : Parse (List ℤ) → Reading
after_first (parsed zs t) = read_body (get_or zs 0 (pos 0)) (get_or zs 1 (pos 0)) t
after_first malformed = refused 9 (1 ∷ [])

-- "Order: 10; the first line's form (9); 1; 2; the other lines in turn ..; 7."
unfoldable pub read_map : List ℕ → Reading
read_map t = checked (refuse_if (ltb most_bytes (length t)) 10) (after_first (read_line 2 [] t))
