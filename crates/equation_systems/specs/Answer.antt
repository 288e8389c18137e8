-- What reading a system answers and leaves, as the papers have it, and what the private functions ask. Assumes nothing.
use Rattle.std.specs.Prelude.{ℕ, ◌≤◌, ◌≡◌, List, [], ◌∷◌, ℤ, Result, Ok, Err}
use Rattle.equation_spec.specs.Systems as form
use Rattle.equation_spec.specs.Systems.{Rows, rows, refused_at}
use Rattle.equation_read.specs.Answer as equation
use Rattle.equation_read.specs.declared.equation.EquationRefusal.{EquationRefusal}
use Rattle.equation_systems.specs.declared.SystemRefusal.{SystemRefusal}
use Rattle.equation_systems.specs.declared.SystemRefusal.TheVariants.{Length, Equations, Unknowns, Newline, Line, Tables}
use Rattle.equation_systems.specs.declared.lines.BadLine.{BadLine}
use Rattle.equation_systems.specs.declared.lines.BadLine.TheVariants as bad

abbrev pub number_of : SystemRefusal → ℕ
number_of Length = 10
number_of Equations = 1
number_of Unknowns = 2
number_of (Newline line) = 9
number_of (Line line why) = equation.number_of why
number_of Tables = 29

-- a line by its number, and then the value of its own refusal
abbrev pub values_of : SystemRefusal → List ℕ
values_of Length = []
values_of Equations = []
values_of Unknowns = []
values_of (Newline line) = line ∷ []
values_of (Line line why) = line ∷ equation.values_of why
values_of Tables = []

-- an answer, with the tables as they are left
abbrev pub answer_of : Result ℕ SystemRefusal → List ℤ → List ℤ → form.Answer
answer_of (Ok p) coefs rights = form.read p coefs rights
answer_of (Err why) coefs rights = form.refused (number_of why) (values_of why) coefs rights

-- ---- lines

abbrev pub rows_by : Result (Unit {0}) BadLine → List ℤ → List ℤ → Rows
rows_by (Ok done) zs rs = rows zs rs
rows_by (Err (bad.Newline n)) zs rs = refused_at n 9 []
rows_by (Err (bad.Refused n why)) zs rs = refused_at n (equation.number_of why) (equation.values_of why)

-- line n
abbrev pub row_by : ℕ → Result (Unit {0}) EquationRefusal → List ℤ → List ℤ → Rows
row_by n (Ok done) zs rs = rows zs rs
row_by n (Err why) zs rs = refused_at n (equation.number_of why) (equation.values_of why)

-- the refusal of a system for a bad line
abbrev pub RefusesLine : BadLine → SystemRefusal → Type 0
RefusesLine (bad.Newline n) why = why ≡ Newline n
RefusesLine (bad.Refused n w) why = why ≡ Line n w

-- p and q are in range, and the tables are long enough for every system
pub record Shape (p q coefs rights : ℕ) : Type 0 where
  pub equations : p ≤ 8
  pub unknowns : q ≤ 16
  pub entries : 128 ≤ coefs
  pub sides : 8 ≤ rights
