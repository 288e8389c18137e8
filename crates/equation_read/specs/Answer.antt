-- What reading an equation answers and leaves. Assumes nothing.
use Rattle.std.specs.Prelude.{ℕ, suc, ◌≤◌, ◌<◌, List, [], ◌∷◌, ℤ, pos, neg_ℤ, nat_abs, Result, Ok, Err, get_or}
use Rattle.definitions.specs.Answers.{◌then◌, refuse_if, refuse_first}
use Rattle.definitions.specs.Refusals.{out_of_range}
use Rattle.equation_spec.specs.Outcome as form
use Rattle.equation_spec.specs.Outcome.{Outcome, accepted, checked, list}
use Rattle.equation_read.specs.declared.equation.EquationRefusal.{EquationRefusal}
use Rattle.equation_read.specs.declared.equation.EquationRefusal.TheVariants.{Length, Unknowns, Row, Grammar, Depth, Multiplier, Coefficient, RightSide}

-- the right side read, or the refusal's number and values; and the row as it is left
pub data Answer : Type 0 where
  read : ℤ → List ℤ → Answer
  refused : ℕ → List ℕ → List ℤ → Answer

-- "a refusal not given within a walk changes nothing lent"
unfoldable pub answered : Outcome → List ℤ → Answer
answered (accepted row right) table = read right row
answered (form.refused n values) table = refused n values table

abbrev pub number_of : EquationRefusal → ℕ
number_of Length = 10
number_of Unknowns = 2
number_of Row = 3
number_of (Grammar place) = 16
number_of Depth = 17
number_of Multiplier = 18
number_of (Coefficient place) = 7
number_of RightSide = 15

-- 16 has the byte place, 7 the place in the row
abbrev pub values_of : EquationRefusal → List ℕ
values_of Length = []
values_of Unknowns = []
values_of Row = []
values_of (Grammar place) = place ∷ []
values_of Depth = []
values_of Multiplier = []
values_of (Coefficient place) = place ∷ []
values_of RightSide = []

abbrev pub answer_of : Result ℤ EquationRefusal → List ℤ → Answer
answer_of (Ok right) table = read right table
answer_of (Err why) table = refused (number_of why) (values_of why) table

-- what totals come to: the constants stand at place 0, those of the right side less
unfoldable pub totals_outcome : ℕ → List ℤ → Outcome
totals_outcome q ts =
    checked (refuse_first 7 q (λ i. out_of_range (get_or ts (suc i) (pos 0))) then refuse_if (out_of_range (neg_ℤ (get_or ts 0 (pos 0)))) 15)
    (accepted (list q 1 (λ k. get_or ts k (pos 0))) (neg_ℤ (get_or ts 0 (pos 0))))

-- the totals of the unknowns 1 to q are in range
pub record Ranged (q : ℕ) (ts : List ℤ) : Type 0 where
  pub range : (i : ℕ) → i < q → nat_abs (get_or ts (suc i) (pos 0)) ≤ 10000
