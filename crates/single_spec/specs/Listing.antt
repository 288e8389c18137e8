-- Document 02, job 12, the listing: "a newline-ended line a loop in the list's order, as "1 2 3 order 1 3 2": the activities in it rising, then their
-- order." A text is the list of its bytes. Assumes nothing.
use Rattle.std.specs.Prelude.{ℕ, zero, suc, Bool, true, false, List, [], ◌∷◌, ◌++◌, ltb, length, drop}
use Rattle.definitions.specs.Answers.{Check, ◌then◌, refuse, go, refuse_if}
use Rattle.definitions.specs.Refusals.{check1, check2, check3, check7}
use Rattle.definitions.specs.Input.{Input, map_of}
use Rattle.definitions.specs.System.{System}
use Rattle.definitions.specs.Tables.{at, capacity}
use Rattle.texts.specs.Decimals.{bytes, decimal, newline, space}
use Rattle.single_spec.specs.Graph.{named, size}
use Rattle.single_spec.specs.Profile.{check26, check30, circuit_order}

-- an unknown's number, from 1, and a space, where the row names it
abbrev pub number_if : Bool → ℕ → List ℕ
number_if true j = decimal (suc j) ++ (space ∷ [])
number_if false j = []

-- "the activities in it rising", of the first n unknowns
unfoldable pub rising_to : ℕ → (ℕ → ℕ) → List ℕ
rising_to zero x = []
rising_to (suc j) x = rising_to j x ++ number_if (named x j) j

-- "then their order": the first n unknowns of an order, each after a space
unfoldable pub order_to : ℕ → (ℕ → ℕ) → List ℕ
order_to zero o = []
order_to (suc k) o = order_to k o ++ (space ∷ decimal (suc (o k)))

-- the word "order"
abbrev pub order_word : List ℕ
order_word = bytes "order"

-- "as "1 2 3 order 1 3 2"", newline-ended
unfoldable pub loop_line : System → (ℕ → ℕ) → List ℕ
loop_line m x = rising_to m.q x ++ (order_word ++ (order_to (size m.q x) (circuit_order m x) ++ (newline ∷ [])))

-- the lines of the first n rows
unfoldable pub lines_to : ℕ → System → (ℕ → ℕ → ℕ) → List ℕ
lines_to zero m row = []
lines_to (suc i) m row = lines_to i m row ++ loop_line m (row i)

-- "a newline-ended line a loop in the list's order"
unfoldable pub listing : System → List ℕ → ℕ → List ℕ
listing m list found = lines_to found m (at list m.q)

-- ---- the call

-- "The listing then gives 30, a row that is no minimal loop, with the first such row, and last 29.": output space, of a length, too short
unfoldable pub row_checks : System → List ℕ → ℕ → ℕ → Check
row_checks m list found room = check30 m found (at list m.q) then refuse_if (ltb room (length (listing m list found))) 29

-- 1, 2, 3 and 6, which is here a found count above the room; 7; "26 .. after 7"
unfoldable pub listing_checks : Input → List ℕ → ℕ → List ℕ → Check
listing_checks i list found out =
    check1 i
    then check2 i
    then check3 i
    then refuse_if (ltb (capacity i.q list) found) 6
    then check7 i
    then check26 (map_of i)
    then row_checks (map_of i) list found (length out)

-- what the listing answers: how many bytes it wrote, or a refusal with its values; and what it leaves in the space that it was lent
pub data Listed : Type 0 where
  written : ℕ → Listed
  refused : ℕ → List ℕ → Listed

pub record Listing : Type 0 where
  pub answer : Listed
  pub out : List ℕ

-- "Space lent for output keeps what stood past the written part."; "a refusal not given within a walk changes nothing lent"
unfoldable pub listed_by : Check → List ℕ → List ℕ → Listing
listed_by (refuse n values) text out = record { answer = refused n values; out = out }
listed_by go text out = record { answer = written (length text); out = text ++ drop (length text) out }

unfoldable pub listing_call : Input → List ℕ → ℕ → List ℕ → Listing
listing_call i list found out = listed_by (listing_checks i list found out) (listing (map_of i) list found) out
