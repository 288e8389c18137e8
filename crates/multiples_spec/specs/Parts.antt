-- Document 02, Job 13, "Every plan is made of loops": "any count that restores the trays is some listed loops, repeated." A call that says which, and how
-- often: a system, a list and a tuple give the multiples, or the first of Job 8's reasons why not. Assumes nothing.
use Rattle.std.specs.Prelude.{ℕ, zero, suc, ◌*◌, ◌-◌, ◌/◌, Bool, true, false, cond, List, eqb, leb, ltb, ℤ, get_or, length, set}
use Rattle.definitions.specs.Input.{Input}
use Rattle.definitions.specs.Reasons as why
use Rattle.definitions.specs.Reasons.{Reason, reason_within, vanishes}
use Rattle.definitions.specs.Refusals.{Sizes, document_sizes}
use Rattle.definitions.specs.System.{most_component}
use Rattle.definitions.specs.Tables.{at}

-- ---- how often a row goes into a tuple

-- how often a goes into b, or k where that is less; 0 sets no bound
unfoldable pub lower : ℕ → ℕ → ℕ → ℕ
lower k zero b = k
lower k (suc a) b = cond (ltb (b / suc a) k) (b / suc a) k

-- by the first n places; more than any component where none of them sets a bound
unfoldable pub often_to : ℕ → (ℕ → ℕ) → (ℕ → ℕ) → ℕ
often_to zero r x = suc most_component
often_to (suc n) r x = lower (often_to n r x) (r n) (x n)

-- a row that nothing bounds, the zero row, is not taken
unfoldable pub bounded : ℕ → ℕ
bounded k = cond (eqb k (suc most_component)) 0 k

abbrev pub often : ℕ → (ℕ → ℕ) → (ℕ → ℕ) → ℕ
often q r x = bounded (often_to q r x)

-- ---- the rows of a list taken off, each as often as it goes, the last row first

-- what is left of x after row r
abbrev pub without : ℕ → (ℕ → ℕ) → (ℕ → ℕ) → ℕ → ℕ
without q r x j = x j - often q r x * r j

-- after the first n rows
unfoldable pub left_over : ℕ → ℕ → (ℕ → ℕ → ℕ) → (ℕ → ℕ) → ℕ → ℕ
left_over q zero row x = x
left_over q (suc n) row x = left_over q n row (without q (row n) x)

-- the multiples, written into a table: that of row i, from 0, at place i
unfoldable pub write_times : ℕ → ℕ → (ℕ → ℕ → ℕ) → (ℕ → ℕ) → List ℕ → List ℕ
write_times q zero row x table = table
write_times q (suc n) row x table = write_times q n row (without q (row n) x) (set table n (often q (row n) x))

-- ---- the call

-- What it answers: the tuple is made of the rows, as often as the table says; equation k is the first that is off, by this amount; what is left after
-- the multiples in the table is not zero, and nothing listed lies below it; the table has no place for each row (29, "output space too short"); or a
-- refusal of Job 8's.
pub data Parts : Type 0 where
  made : Parts
  off : ℕ → ℤ → Parts
  unlisted : Parts
  no_space : Parts
  refused : ℕ → List ℕ → Parts

-- an answer as one number, where each refusal has its own: 29 is "output space too short"
abbrev pub parts_number : Parts → ℕ
parts_number made = 125
parts_number (off k amount) = 121
parts_number unlisted = 124
parts_number no_space = 29
parts_number (refused n values) = n

pub record Outcome : Type 0 where
  pub answer : Parts
  pub times : List ℕ

unfoldable pub all_taken : Bool → Parts
all_taken true = made
all_taken false = unlisted

unfoldable pub taken_apart : ℕ → ℕ → (ℕ → ℕ → ℕ) → (ℕ → ℕ) → List ℕ → Outcome
taken_apart q found row x times = record { answer = all_taken (vanishes q (left_over q found row x)); times = write_times q found row x times }

-- "Space lent for output" is asked for only where it is written
unfoldable pub if_space : Bool → List ℕ → Outcome → Outcome
if_space true times o = o
if_space false times o = record { answer = no_space; times = times }

-- refused, or off; else, zero, listed or not, the tuple is a solution
unfoldable pub unless_off : Reason → List ℕ → Outcome → Outcome
unless_off (why.refused n values) times o = record { answer = refused n values; times = times }
unless_off (why.off k amount) times o = record { answer = off k amount; times = times }
unless_off why.zero times o = o
unless_off (why.stands n) times o = o
unless_off (why.above n) times o = o
unless_off why.unlisted times o = o

-- for the most equations and unknowns
unfoldable pub decomposed_within : Sizes → Input → List ℕ → ℕ → List ℕ → List ℕ → Outcome
decomposed_within s i list found t times =
    unless_off (reason_within s i list found t) times
    (if_space (leb found (length times)) times (taken_apart i.q found (at list i.q) (λ j. get_or t j 0) times))

-- document 02's call: p from 1 to 8, q from 1 to 16
abbrev pub decomposed : Input → List ℕ → ℕ → List ℕ → List ℕ → Outcome
decomposed i list found t times = decomposed_within document_sizes i list found t times
