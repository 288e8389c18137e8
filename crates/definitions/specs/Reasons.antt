-- Document 02, Job 8, "Why is my loop not in the list?": "Given a system, a list and a tuple with components up to 1,000,000, the tool gives the first
-- that is true". Assumes nothing.
use Rattle.std.specs.Prelude.{ℕ, ◌-◌, Bool, true, false, not, List, ◌∷◌, [], ◌≡◌, refl, leb, eqb, ℤ, pos, negsuc, get_or}
use Rattle.std.proofs.Math.Option.{Option, some, none}
use Rattle.linear.specs.Sums.{sum_to}
use Rattle.linear.specs.Systems.{inner, value}
use Rattle.linear.specs.Places.{else_if, first_to, last_to, place_if}
use Rattle.linear.specs.Tests.{all_to, any_to}
use Rattle.definitions.specs.Answers.{Check, refuse, go, refuse_with, refuse_if, ◌then◌, refuse_first}
use Rattle.definitions.specs.System.{System, image_of, is_at_or_below, is_zero}
use Rattle.definitions.specs.Input.{Input, input_of, map_of}
use Rattle.definitions.specs.Highest.{highest}
use Rattle.definitions.specs.Tables.{at, capacity}
use Rattle.definitions.specs.Refusals.{Sizes, check1_within, check2_within, check3, check5, check7, check8, document_sizes, sizes}

-- The reasons, equations and places counted from 1; or a refusal, with document 01's number and values.
pub data Reason : Type 0 where
  -- "it is all zero"
  zero : Reason
  -- "equation k is the first that is off, and by what signed amount"
  off : ℕ → ℤ → Reason
  -- "it stands at highest place n"
  stands : ℕ → Reason
  -- "the row at highest place n lies below it"
  above : ℕ → Reason
  -- "nothing listed lies below it"
  unlisted : Reason
  refused : ℕ → List ℕ → Reason

-- ---- the refusals

-- A list is a list table and a count of rows: "found above the room" is 6.
abbrev pub check_count : Input → List ℕ → ℕ → Check
check_count i list found = refuse_if (not (leb found (capacity i.q list))) 6

-- "(A longer or shorter tuple: 5; a component too large: 8.)", in rising number: the tuple takes the place of a floor. The most equations and unknowns are a
-- parameter, so that larger maps are asked about in the same words
unfoldable pub reason_checks : Sizes → Input → List ℕ → ℕ → List ℕ → Check
reason_checks s i list found t =
    check1_within s i then check2_within s i then check3 i then check5 i t then check_count i list found then check7 i then check8 i t

-- ---- the first that is true

-- the tests: all zero; and the first equation that is off
unfoldable pub vanishes : ℕ → (ℕ → ℕ) → Bool
vanishes q x = all_to q (λ j. eqb (x j) 0)

unfoldable pub first_off : System → (ℕ → ℕ) → Option ℕ
first_off m x = first_to m.p (λ i. not (is_zero (image_of m x i)))

unfoldable pub zero_or : Bool → Reason → Reason
zero_or true next = zero
zero_or false next = next

-- the equation with its amount, v (k - 1)
unfoldable pub off_or : (ℕ → ℤ) → Option ℕ → Reason → Reason
off_or v (some k) next = off k (v (k - 1))
off_or v none next = next

unfoldable pub stands_or : Option ℕ → Reason → Reason
stands_or (some n) next = stands n
stands_or none next = next

unfoldable pub above_or : Option ℕ → Reason → Reason
above_or (some n) next = above n
above_or none next = next

-- s and t agree at every place: the test
unfoldable pub is_same : ℕ → (ℕ → ℕ) → (ℕ → ℕ) → Bool
is_same q s t = all_to q (λ j. eqb (s j) (t j))

-- the highest place of a row that is x itself
unfoldable pub standing : ℕ → ℕ → (ℕ → ℕ → ℕ) → (ℕ → ℕ) → Option ℕ
standing q n row x = last_to n (λ i. is_same q (row i) x)

-- of a solution: the row that it is, or one that lies below it; a row at or below x that is not x lies below it
unfoldable pub in_list : ℕ → ℕ → (ℕ → ℕ → ℕ) → (ℕ → ℕ) → Reason
in_list q found row x = stands_or (standing q found row x) (above_or (highest q found row x) unlisted)

unfoldable pub first_true : System → ℕ → (ℕ → ℕ → ℕ) → (ℕ → ℕ) → Reason
first_true m found row x = zero_or (vanishes m.q x) (off_or (image_of m x) (first_off m x) (in_list m.q found row x))

unfoldable pub unless_refused : Check → Reason → Reason
unless_refused (refuse n values) r = refused n values
unless_refused go r = r

unfoldable pub reason_within : Sizes → Input → List ℕ → ℕ → List ℕ → Reason
reason_within s i list found t = unless_refused (reason_checks s i list found t) (first_true (map_of i) found (at list i.q) (λ j. get_or t j 0))

-- document 02's call: p from 1 to 8, q from 1 to 16
abbrev pub reason : Input → List ℕ → ℕ → List ℕ → Reason
reason i list found t = reason_within document_sizes i list found t

-- ---- it computes: on 2 −3 with the list 3 2, 3 2, and on the program's map with both of its solutions; one answer of each kind, and each refusal
-- ahead of those after it

small : Input
small = input_of 1 2 (pos 2 ∷ negsuc 2 ∷ [])

twice : List ℕ
twice = 3 ∷ 2 ∷ 3 ∷ 2 ∷ 0 ∷ []

example : Input
example = input_of 2 4 (negsuc 0 ∷ pos 1 ∷ pos 2 ∷ negsuc 2 ∷ negsuc 0 ∷ pos 3 ∷ negsuc 1 ∷ negsuc 0 ∷ [])

both : List ℕ
both = 0 ∷ 1 ∷ 1 ∷ 1 ∷ 4 ∷ 2 ∷ 1 ∷ 0 ∷ []

answers : List Reason
answers =
    reason small twice 2 (0 ∷ 0 ∷ [])
    ∷ reason small twice 2 (3 ∷ 3 ∷ [])
    ∷ reason small twice 2 (4 ∷ 1 ∷ [])
    ∷ reason small twice 2 (3 ∷ 2 ∷ [])
    ∷ reason small twice 1 (3 ∷ 2 ∷ [])
    ∷ reason small twice 2 (6 ∷ 4 ∷ [])
    ∷ reason small twice 0 (6 ∷ 4 ∷ [])
    ∷ reason small twice 0 (3 ∷ 2 ∷ [])
    ∷ reason example both 2 (0 ∷ 0 ∷ 1 ∷ 1 ∷ [])
    ∷ reason example both 2 (0 ∷ 0 ∷ 3 ∷ 2 ∷ [])
    ∷ reason example both 2 (4 ∷ 3 ∷ 2 ∷ 1 ∷ [])
    ∷ reason example both 1 (4 ∷ 2 ∷ 1 ∷ 0 ∷ [])
    ∷ []

refusals : List Reason
refusals =
    reason (input_of 0 17 []) [] 1 []
    ∷ reason (input_of 1 17 []) [] 1 []
    ∷ reason (input_of 1 2 []) [] 1 []
    ∷ reason (input_of 1 2 (pos 10001 ∷ pos 0 ∷ [])) [] 1 (1000001 ∷ [])
    ∷ reason (input_of 1 2 (pos 10001 ∷ pos 0 ∷ [])) [] 1 (1000001 ∷ 0 ∷ [])
    ∷ reason (input_of 1 2 (pos 0 ∷ pos 10001 ∷ [])) (0 ∷ 0 ∷ []) 1 (1000001 ∷ 0 ∷ [])
    ∷ reason (input_of 1 2 (pos 0 ∷ pos 10000 ∷ [])) (0 ∷ 0 ∷ []) 1 (1000001 ∷ 0 ∷ [])
    ∷ reason (input_of 1 2 (pos 0 ∷ pos 10000 ∷ [])) (0 ∷ 0 ∷ []) 1 (1000000 ∷ 1000000 ∷ [])
    ∷ reason (input_of 9 17 []) [] 1 []
    ∷ reason_within (sizes 9 16) (input_of 9 17 []) [] 1 []
    ∷ reason_within (sizes 9 17) (input_of 9 17 []) [] 1 []
    ∷ reason_within (sizes 8 17) (input_of 9 17 []) [] 1 []
    ∷ []

reasons_hold : (answers ≡ zero ∷ off 1 (negsuc 2) ∷ off 1 (pos 5) ∷ stands 2 ∷ stands 1 ∷ above 2 ∷ unlisted ∷ unlisted ∷ off 1 (negsuc 0) ∷ off 2 (negsuc 7)
    ∷ above 2 ∷ unlisted ∷ [])
    × (refusals ≡ refused 1 [] ∷ refused 2 [] ∷ refused 3 [] ∷ refused 5 [] ∷ refused 6 [] ∷ refused 7 (2 ∷ []) ∷ refused 8 [] ∷ off 1 (pos 10000000000)
    ∷ refused 1 []
    ∷ refused 2 []
    ∷ refused 3 []
    ∷ refused 1 []
    ∷ [])
unfolding small twice example both answers refusals sum_to inner value all_to any_to else_if first_to place_if last_to refuse_with ◌then◌ refuse_first
    is_at_or_below is_same highest standing check7 reason_checks vanishes first_off zero_or off_or stands_or above_or in_list first_true unless_refused
    reason_within
reasons_hold = (refl, refl)
