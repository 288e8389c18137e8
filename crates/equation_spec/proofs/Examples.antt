-- Texts and their outcomes by computation. Assumes nothing.
use Rattle.std.specs.Prelude.{ℕ, ◌≡◌, refl, List, [], ◌∷◌, ◌++◌, map, ℤ, pos, negsuc}
use Prim.Native.String.{String}
use Rattle.definitions.specs.Answers.{◌then◌, refuse_with, refuse_first}
use Rattle.texts.specs.Decimals.{bytes, last_digits, decimal}
use Rattle.texts.specs.Reading.{and_then, more_digits, read_natural}
use Rattle.equation_spec.specs.Meaning.{of_sum, coefficient, right_side, sum_depth, sum_exceeds}
use Rattle.equation_spec.specs.Reader.{skip, on_byte, on_sign, read_index, read_factor, after_numeral, read_term, more_terms, first_term, read_sum, closed}
use Rattle.equation_spec.specs.Reader.{read_bracket, right_of, read_equation}
use Rattle.equation_spec.specs.Scan.{onward, factor_begins, term_begins, sum_begins, after_digits, after_factor, step, place_from, place}
use Rattle.equation_spec.specs.Outcome.{Outcome, accepted, refused, checked, list, limits, tree_outcome, outcome}
use Rattle.equation_spec.specs.Writing as writing
use Rattle.equation_spec.specs.Writing.{later_terms, terms, written, write_checks, wrote, put_out, write}

-- a number of unknowns, a text, and what it comes to
abbrev Case : Type 0
Case = ℕ × String × Outcome

as_read : List Case → List Outcome
unfolding skip on_byte on_sign and_then more_digits read_natural read_index read_factor after_numeral read_term more_terms first_term read_sum closed
    read_bracket right_of
    read_equation onward factor_begins term_begins sum_begins after_digits after_factor step place_from place ◌then◌ refuse_with refuse_first coefficient
    right_side of_sum
    sum_depth sum_exceeds checked list limits tree_outcome outcome
as_read cases = map (λ (c : Case). outcome c.0 c.0 (bytes c.1)) cases

as_said : List Case → List Outcome
as_said cases = map (λ (c : Case). c.2) cases

abbrev at : ℕ → Outcome
at n = refused 16 (n ∷ [])

-- what is accepted, and the limits
cases : List Case
cases =
    (3, "2*(x1 + x3) - x2 = 3", accepted (pos 2 ∷ negsuc 0 ∷ pos 2 ∷ []) (pos 3))
    ∷ (1, "((((((((x1))))))))=0", accepted (pos 1 ∷ []) (pos 0))
    ∷ (1, "(((((((((x1)))))))))=0", refused 17 [])
    ∷ (1, "101*(100*(x1))=0", refused 18 [])
    ∷ (1, "100*(100*(x1))=0", accepted (pos 10000 ∷ []) (pos 0))
    ∷ (1, "0*(99999*(x1))=0", accepted (pos 0 ∷ []) (pos 0))
    ∷ (1, "20000*x1-15000*x1=0", accepted (pos 5000 ∷ []) (pos 0))
    ∷ (1, "99999*(0)=0", refused 18 [])
    ∷ (1, "73*(137*(0))=0", refused 18 [])
    ∷ (1, "10001*x1=0", refused 7 (1 ∷ []))
    ∷ (1, "x1=10001", refused 15 [])
    ∷ []

-- the place of a fault
faults : List Case
faults =
    (1, "x1=3 ", at 6)
    ∷ (1, " x1=3", at 1)
    ∷ (1, "", at 1)
    ∷ (1, "x2=0", at 2)
    ∷ (1, "123456=0", at 6)
    ∷ (1, "01=0", at 2)
    ∷ (3, "x12 = 0", at 3)
    ∷ (16, "x1 + ((((((((( x17", at 18)
    ∷ (2, "(x1 = 2", at 5)
    ∷ (2, "x1 = 2 = 3", at 8)
    ∷ (2, "x1*2 = 3", at 3)
    ∷ (2, "2*3 = x1", at 3)
    ∷ (2, "x1 x2 = 3", at 4)
    ∷ (2, "x1 + = 3", at 6)
    ∷ (2, "x1", at 3)
    ∷ []

cases_read : as_read cases ≡ as_said cases
unfolding as_read as_said cases
cases_read = refl

faults_read : as_read faults ≡ as_said faults
unfolding as_read as_said faults
faults_read = refl

-- ---- the writer

-- a row and a right side, and its text
abbrev Row : Type 0
Row = List ℤ × ℤ × String

rows : List Row
rows =
    (negsuc 1 ∷ pos 0 ∷ pos 1 ∷ [], negsuc 2, "-2*x1 + x3 = -3")
    ∷ (pos 1 ∷ negsuc 0 ∷ [], pos 0, "x1 - x2 = 0")
    ∷ (negsuc 0 ∷ [], pos 10000, "-x1 = 10000")
    ∷ (pos 0 ∷ pos 0 ∷ [], negsuc 9999, "0 = -10000")
    ∷ (pos 0 ∷ negsuc 9999 ∷ pos 2 ∷ [], pos 7, "-10000*x2 + 2*x3 = 7")
    ∷ []

rows_written : map (λ (r : Row). written r.0 r.1) rows ≡ map (λ (r : Row). bytes r.2) rows
unfolding rows last_digits decimal later_terms terms written
rows_written = refl

-- 2, 3, 7, 15, then 29; an exact fit is no 29, and what stands past the text stays
calls_answered :
    write 17 [] (pos 0) [] ∷ write 2 (pos 99999 ∷ []) (pos 0) [] ∷ write 1 (pos 10001 ∷ []) (pos 10001) [] ∷ write 1 (pos 1 ∷ []) (negsuc 10000) []
    ∷ write 1 (pos 1 ∷ []) (pos 0) (1 ∷ 2 ∷ 3 ∷ 4 ∷ 5 ∷ []) ∷ write 1 (pos 1 ∷ []) (pos 0) (1 ∷ 2 ∷ 3 ∷ 4 ∷ 5 ∷ 6 ∷ [])
    ∷ write 1 (pos 1 ∷ []) (pos 0) (1 ∷ 2 ∷ 3 ∷ 4 ∷ 5 ∷ 6 ∷ 7 ∷ []) ∷ []
    ≡ writing.refused 2 [] []
    ∷ writing.refused 3 [] []
    ∷ writing.refused 7 (1 ∷ []) []
    ∷ writing.refused 15 [] []
    ∷ writing.refused 29 [] (1 ∷ 2 ∷ 3 ∷ 4 ∷ 5 ∷ [])
    ∷ wrote 6 (bytes "x1 = 0")
    ∷ wrote 6 (bytes "x1 = 0" ++ (7 ∷ []))
    ∷ []
unfolding ◌then◌ refuse_with refuse_first last_digits decimal later_terms terms written write_checks put_out write
calls_answered = refl
