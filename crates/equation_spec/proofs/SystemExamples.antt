-- Systems of several lines, and what they come to, by computation. Assumes nothing.
use Rattle.std.specs.Prelude.{ℕ, ◌≡◌, refl, List, [], ◌∷◌, map, pos, negsuc, replicate}
use Prim.Native.String.{String}
use Rattle.definitions.specs.Answers.{◌then◌, refuse_with, refuse_first}
use Rattle.texts.specs.Decimals.{bytes}
use Rattle.texts.specs.Reading.{and_then, more_digits, read_natural}
use Rattle.equation_spec.specs.Meaning.{of_sum, coefficient, right_side, sum_depth, sum_exceeds}
use Rattle.equation_spec.specs.Reader.{skip, on_byte, on_sign, read_index, read_factor, after_numeral, read_term, more_terms, first_term, read_sum, closed}
use Rattle.equation_spec.specs.Reader.{read_bracket, right_of, read_equation}
use Rattle.equation_spec.specs.Scan.{onward, factor_begins, term_begins, sum_begins, after_digits, after_factor, step, place_from, place}
use Rattle.equation_spec.specs.Outcome.{checked, list, limits, tree_outcome, outcome}
use Rattle.equation_spec.specs.Lines.{line_length, line_count}
use Rattle.equation_spec.specs.Systems.{line_outcome, read_lines, Outcome, accepted, refused, of_rows, unless, system_checks, system_outcome, read, hand_out}
use Rattle.equation_spec.specs.Systems.{table_checks, handed_out, read_system}
use Rattle.equation_spec.specs.Systems as systems

-- a number of unknowns, a text, and what it comes to
abbrev Case : Type 0
Case = ℕ × String × Outcome

as_read : List Case → List Outcome
unfolding skip on_byte on_sign and_then more_digits read_natural read_index read_factor after_numeral read_term more_terms first_term read_sum closed
    read_bracket right_of
    read_equation onward factor_begins term_begins sum_begins after_digits after_factor step place_from place ◌then◌ refuse_with refuse_first coefficient
    right_side of_sum
    sum_depth sum_exceeds checked list limits tree_outcome outcome line_length line_count line_outcome read_lines of_rows unless system_checks system_outcome
as_read cases = map (λ (c : Case). system_outcome c.0 (bytes c.1)) cases

as_said : List Case → List Outcome
as_said cases = map (λ (c : Case). c.2) cases

cases : List Case
cases =
    (3, "2*(x1 + x3) - x2 = 3\nx1 = x2\n", accepted 2 (pos 2 ∷ negsuc 0 ∷ pos 2 ∷ pos 1 ∷ negsuc 0 ∷ pos 0 ∷ []) (pos 3 ∷ pos 0 ∷ []))
    ∷ (
      1,
      "0=0\n0=0\n0=0\n0=0\n0=0\n0=0\n0=0\nx1=7\n",
      accepted 8 (pos 0 ∷ pos 0 ∷ pos 0 ∷ pos 0 ∷ pos 0 ∷ pos 0 ∷ pos 0 ∷ pos 1 ∷ []) (pos 0 ∷ pos 0 ∷ pos 0 ∷ pos 0 ∷ pos 0 ∷ pos 0 ∷ pos 0 ∷ pos 7 ∷ []),
    )
    ∷ (1, "0=0\n0=0\n0=0\n0=0\n0=0\n0=0\n0=0\n0=0\n0=0\n", refused 1 [])
    ∷ (1, "0=0\n0=0\n0=0\n0=0\n0=0\n0=0\n0=0\n0=0\nx", refused 1 [])
    ∷ (17, "", refused 1 [])
    ∷ (17, "x1=0\n", refused 2 [])
    ∷ (0, "x1=0", refused 2 [])
    ∷ (1, "x1=0", refused 9 (1 ∷ []))
    ∷ (1, "x1=0\nx2", refused 9 (2 ∷ []))
    ∷ (1, "x1=0\n\n", refused 16 (2 ∷ 1 ∷ []))
    ∷ (2, "x1=0\nx3=0\nx1", refused 16 (2 ∷ 2 ∷ []))
    ∷ (1, "\n", refused 16 (1 ∷ 1 ∷ []))
    ∷ (1, "x1=0\r\n", refused 16 (1 ∷ 5 ∷ []))
    ∷ (1, "x1=0\n(((((((((x1)))))))))=0\n", refused 17 (2 ∷ []))
    ∷ (1, "99999*(0)=0\nx2=0\n", refused 18 (1 ∷ []))
    ∷ (2, "x1=0\nx1=0\n10001*x2=0\n", refused 7 (3 ∷ 2 ∷ []))
    ∷ (2, "x1=10001\n", refused 15 (1 ∷ []))
    ∷ []

cases_read : as_read cases ≡ as_said cases
unfolding as_read as_said cases
cases_read = refl

long : system_outcome 1 (replicate 4097 10) ≡ refused 10 []
unfolding as_read
long = refl

-- both tables are written from their beginnings; 29 where one is too short, and nothing is written then
tables :
    read_system 1 (bytes "x1=2\n3*x1=-4\n") (pos 9 ∷ pos 9 ∷ pos 9 ∷ []) (pos 8 ∷ pos 8 ∷ [])
    ∷ read_system 1 (bytes "x1=2\n3*x1=-4\n") (pos 9 ∷ []) (pos 8 ∷ pos 8 ∷ []) ∷ read_system 1 (bytes "x1=2\n3*x1=-4\n") (pos 9 ∷ pos 9 ∷ []) (pos 8 ∷ [])
    ∷ read_system 1 (bytes "x1=2\n3*x1=-4") [] [] ∷ []
    ≡ read 2 (pos 1 ∷ pos 3 ∷ pos 9 ∷ []) (pos 2 ∷ negsuc 3 ∷ [])
    ∷ systems.refused 29 [] (pos 9 ∷ []) (pos 8 ∷ pos 8 ∷ [])
    ∷ systems.refused 29 [] (pos 9 ∷ pos 9 ∷ []) (pos 8 ∷ [])
    ∷ systems.refused 9 (2 ∷ []) [] []
    ∷ []
unfolding as_read hand_out table_checks handed_out read_system
tables = refl
