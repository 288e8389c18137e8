-- A system typed as several lines, one equation a line, each as people write it (document 02, job 3), with a given number of unknowns: what reading it comes
-- to. Assumes nothing.
use Rattle.std.specs.Prelude.{ℕ, zero, suc, not, List, [], ◌∷◌, ◌++◌, ltb, ℤ, length, drop}
use Rattle.definitions.specs.Answers.{Check, refuse, go, ◌then◌, refuse_if}
use Rattle.definitions.specs.System.{most_equations, most_unknowns}
use Rattle.definitions.specs.Refusals.{between}
use Rattle.texts.specs.Reading.{most_bytes}
use Rattle.equation_spec.specs.Outcome as equation
use Rattle.equation_spec.specs.Outcome.{checked, outcome}
use Rattle.equation_spec.specs.Lines.{line_length, line_of, after_line, line_count}

-- ---- the lines

-- the line that a text begins with: 9 if no newline ends it, else what the equation on it comes to
unfoldable pub line_outcome : ℕ → List ℕ → equation.Outcome
line_outcome q t = checked (refuse_if (not (ltb (line_length t) (length t))) 9) (outcome q q (line_of t))

-- All coefficients, row by row, and all right sides; or the number of the first line that is refused, from 1, with its own refusal and the values of that.
pub data Rows : Type 0 where
  rows : List ℤ → List ℤ → Rows
  refused_at : ℕ → ℕ → List ℕ → Rows

-- line n after the coefficients zs and the right sides rs
abbrev pub at_line : ℕ → List ℤ → List ℤ → equation.Outcome → (List ℤ → List ℤ → Rows) → Rows
at_line n zs rs (equation.accepted row right) f = f (zs ++ row) (rs ++ (right ∷ []))
at_line n zs rs (equation.refused k values) f = refused_at n k values

-- k lines, from line n on
unfoldable pub read_lines : ℕ → ℕ → ℕ → List ℤ → List ℤ → List ℕ → Rows
read_lines zero q n zs rs t = rows zs rs
read_lines (suc k) q n zs rs t = at_line n zs rs (line_outcome q t) (λ zs rs. read_lines k q (suc n) zs rs (after_line t))

-- ---- the system

-- A system, by p, its coefficients row by row and its right sides; or refused by the papers' number, with the values that it comes with: for a line its number,
-- and then the value of its own refusal.
pub data Outcome : Type 0 where
  accepted : ℕ → List ℤ → List ℤ → Outcome
  refused : ℕ → List ℕ → Outcome

unfoldable pub of_rows : ℕ → Rows → Outcome
of_rows p (rows zs rs) = accepted p zs rs
of_rows p (refused_at n k values) = refused k (n ∷ values)

unfoldable pub unless : Check → Outcome → Outcome
unless (refuse n values) o = refused n values
unless go o = o

-- 10; 1, more than 8 lines or none; 2
unfoldable pub system_checks : ℕ → List ℕ → Check
system_checks q t =
    refuse_if (ltb most_bytes (length t)) 10
    then refuse_if (not (between 1 most_equations (line_count t))) 1
    then refuse_if (not (between 1 most_unknowns q)) 2

-- then the lines in turn
unfoldable pub system_outcome : ℕ → List ℕ → Outcome
system_outcome q t = unless (system_checks q t) (of_rows (line_count t) (read_lines (line_count t) q 1 [] [] t))

-- ---- the call

-- the number of equations read, or the refusal's number and values; and the two tables as they are left
pub data Answer : Type 0 where
  read : ℕ → List ℤ → List ℤ → Answer
  refused : ℕ → List ℕ → List ℤ → List ℤ → Answer

unfoldable pub hand_out : Check → ℕ → List ℤ → List ℤ → List ℤ → List ℤ → Answer
hand_out (refuse n values) p zs rs coefs rights = refused n values coefs rights
hand_out go p zs rs coefs rights = read p (zs ++ drop (length zs) coefs) (rs ++ drop (length rs) rights)

-- 29 last: a table is too short for what was read
unfoldable pub table_checks : List ℤ → List ℤ → List ℤ → List ℤ → Check
table_checks zs rs coefs rights = refuse_if (ltb (length coefs) (length zs)) 29 then refuse_if (ltb (length rights) (length rs)) 29

-- "Space lent for output keeps what stood past the written part."; a refusal changes nothing lent
unfoldable pub handed_out : Outcome → List ℤ → List ℤ → Answer
handed_out (accepted p zs rs) coefs rights = hand_out (table_checks zs rs coefs rights) p zs rs coefs rights
handed_out (refused n values) coefs rights = refused n values coefs rights

unfoldable pub read_system : ℕ → List ℕ → List ℤ → List ℤ → Answer
read_system q t coefs rights = handed_out (system_outcome q t) coefs rights
