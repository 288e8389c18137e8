-- What one step comes to where 14 is not given: the refusals of the search and the step of document 01, for every system of the kind that has the Gram matrix
-- and the limit which the code was handed. Assumes nothing.
use Rattle.std.specs.Prelude.{◌≡◌, ◌≢◌, List, ℕ, ◌+◌, ◌*◌, ◌≤◌, ◌<◌, ℤ, length, Result, Ok, Err}
use Rattle.definitions.specs.Answers.{Check, refuse, go}
use Rattle.definitions.specs.System.{Kind, System, most_component, most_unknowns}
use Rattle.definitions.specs.Tables.{RunKind, State, capacity, stepped}
use Rattle.definitions.specs.Step.{deeper, level, row_width, step, top}
use Rattle.definitions.specs.Refusals.{search_checks, step_limit}
use Rattle.laws.specs.RefusalLaws.{RowInOrder, SecondFits}
use Rattle.calls.specs.Paper.{system_with, number_of, values_of}
use Rattle.calls.specs.declared.Refusal.{Refusal}
use Rattle.step.specs.declared.Stepped.{Stepped}
use Rattle.step.specs.declared.Stepped.TheVariants.{Listed, ListedSecond, Grown}
use Rattle.candidates.specs.Kinds.{beside}
use Rattle.products.specs.Totals.{Totals}
use Rattle.products.specs.Products.{Gram, SmallGram, Combined}

-- what a step is taken from: rows in order on a stack that is not empty, lists that have their rows, and the products and sums of the rows
pub record Standing (k : Kind) (limit q : ℕ) (g : List ℤ) (s : State) (c : List ℤ) (sums : List ℕ) : Type 0 where
  pub some : 0 < q
  pub wide : 0 < row_width k q
  pub few : q ≤ most_unknowns
  pub high : 0 < s.run.height
  pub low : s.run.height ≤ q
  pub long : q * (q + 1) ≤ length s.stack
  pub rows : (l : ℕ) → l < s.run.height → RowInOrder k limit q s.stack l
  pub bounded : limit ≤ most_component
  pub listed : s.run.found ≤ capacity (row_width k q) s.list
  pub listed₂ : SecondFits k q s
  pub gram : SmallGram q g
  pub cached : Combined q g s.stack s.run.height c
  pub summed : Totals q s.stack s.run.height sums

-- what the code found, as a check, and the state that it makes with the tables that it leaves
abbrev pub check_by : Result Stepped Refusal → Check
check_by (Ok Listed) = go
check_by (Ok ListedSecond) = go
check_by (Ok (Grown h)) = go
check_by (Err why) = refuse (number_of why) (values_of why)

abbrev pub height_by : Result Stepped Refusal → State → ℕ
height_by (Ok Listed) s = level s
height_by (Ok ListedSecond) s = level s
height_by (Ok (Grown h)) s = h
height_by (Err why) s = s.run.height

-- a state with these tables, whose counts have moved
abbrev pub moved : System → State → List ℕ → List ℕ → List ℕ → ℕ → ℕ → ℕ → State
moved m s stack list second height found found2 =
    record { stack = stack; list = list; second = second; run = stepped s.run height found found2 (deeper m.q s (top m s)) }

abbrev pub state_by : Result Stepped Refusal → System → State → List ℕ → List ℕ → List ℕ → State
state_by (Ok Listed) m s stack list second = moved m s stack list second (level s) (s.run.found + 1) s.run.found2
state_by (Ok ListedSecond) m s stack list second = moved m s stack list second (level s) s.run.found (s.run.found2 + 1)
state_by (Ok (Grown h)) m s stack list second = moved m s stack list second h s.run.found s.run.found2
state_by (Err why) m s stack list second = record { stack = stack; list = list; second = second; run = s.run }

abbrev pub step_by : Check → System → State → State
step_by (refuse n values) m s = s
step_by go m s = step m s

-- the code's step from s is document 01's
pub record Steps (m : System) (s : State) (r : Result Stepped Refusal) (stack list second : List ℕ) : Type 0 where
  pub checks : search_checks m s ≡ check_by r
  pub leaves : state_by r m s stack list second ≡ step_by (check_by r) m s

-- whatever the rest of the record is
pub record Taken (k : Kind) (limit q : ℕ) (g : List ℤ) (s : State) (r : Result Stepped Refusal) (stack list second : List ℕ) (c : List ℤ)
    (sums : List ℕ) : Type 0 where
  pub cached : Combined q g stack (height_by r s) c
  pub summed : Totals q stack (height_by r s) sums
  pub steps : (p : ℕ) (coefs : List ℤ) → Gram p q coefs g → (run : RunKind) (n n₂ d : ℕ) → n ≢ step_limit
      → Steps (system_with k p q coefs limit) (beside s run n n₂ d) r stack list second
