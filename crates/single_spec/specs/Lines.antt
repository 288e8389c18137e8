-- JOB 12 OF DOCUMENT 02, the listing that succeeds: what it answers and writes, line by line; the statements, each under its words, and then why they hold.
-- Assumes nothing.
use Rattle.std.specs.Prelude.{◌≡◌, Bool, false, true, List, [], ◌++◌, ◌∷◌, ltb, drop, length}
use Prim.Native.Nat.{◌<◌, ◌≤◌, suc, zero, ℕ}
use Rattle.linear.specs.Tests.{number}
use Rattle.definitions.specs.Answers.{go}
use Rattle.definitions.specs.Input.{Input, map_of}
use Rattle.definitions.specs.System.{MinimalSolution, System}
use Rattle.definitions.specs.Tables.{at}
use Rattle.theorems.specs.Listed.{Exactly}
use Rattle.texts.specs.Decimals.{decimal, newline, space}
use Rattle.single_spec.specs.Listing.{listing, listing_call, listing_checks, order_to, order_word}
use Rattle.single_spec.specs.Listing.{written}
use Rattle.single_spec.specs.Promises.{Ordered}

-- ---- the statements

-- names 0 .. K - 1 are the unknowns below n that the row x names, "rising"
pub record Rising (n : ℕ) (x : ℕ → ℕ) (K : ℕ) (name : ℕ → ℕ) : Type 0 where
  pub inside : (k : ℕ) → k < K → (name k < n) × (0 < x (name k))
  pub all : (j : ℕ) → j < n → 0 < x j → (k : ℕ) × (k < K) × (name k ≡ j)
  pub rises : (a b : ℕ) → a < b → b < K → name a < name b

-- K numbers, from 1, each before a space
unfoldable pub spelled : ℕ → (ℕ → ℕ) → List ℕ
spelled zero name = []
spelled (suc k) name = spelled k name ++ (decimal (suc (name k)) ++ (space ∷ []))

-- "a newline-ended line a loop .. as "1 2 3 order 1 3 2": the activities in it rising, then their order"
pub record Line (m : System) (x : ℕ → ℕ) (line : List ℕ) : Type 0 where
  pub number : ℕ
  pub name : ℕ → ℕ
  pub rising : Rising m.q x number name
  pub order : ℕ → ℕ
  pub ordered : Ordered m x number order
  pub is : line ≡ spelled number name ++ (order_word ++ (order_to number order ++ (newline ∷ [])))

-- the first n of these texts, one after the other
unfoldable pub joined : ℕ → (ℕ → List ℕ) → List ℕ
joined zero line = []
joined (suc n) line = joined n line ++ line n

-- "a listing, a newline-ended line a loop in the list's order": where the checks let it go on, it says how many bytes it wrote, the space holds the lines of
-- the rows and after them what stood there, and every row is a minimal solution
pub record Lists (i : Input) (list : List ℕ) (found : ℕ) (out : List ℕ) : Type 0 where
  pub line : ℕ → List ℕ
  pub lines : (k : ℕ) → k < found → MinimalSolution (map_of i) (at list i.q k) × Line (map_of i) (at list i.q k) (line k)
  pub fits : length (joined found line) ≤ length out
  pub answers : (listing_call i list found out).answer ≡ written (length (joined found line))
  pub writes : (listing_call i list found out).out ≡ joined found line ++ drop (length (joined found line)) out

-- a finished run lists every loop: what its last call left holds each minimal solution once and no other, the listing is refused for no reason but too short
-- a space (29), and where it is not, each has its line
pub record FinishedLists (i : Input) (list : List ℕ) (found : ℕ) : Type 0 where
  pub whole : Exactly i.q (MinimalSolution (map_of i)) list found
  pub goes : (out : List ℕ) → length (listing (map_of i) list found) ≤ length out → listing_checks i list found out ≡ go
  pub lists : (out : List ℕ) → listing_checks i list found out ≡ go → Lists i list found out

-- one name more
abbrev pick_name : Bool → ℕ → ℕ → ℕ
pick_name true a b = a
pick_name false a b = b

abbrev pub further : ℕ → (ℕ → ℕ) → ℕ → ℕ → ℕ
further K name n k = pick_name (ltb k K) (name k) n

pub record Spelt (n : ℕ) (x : ℕ → ℕ) (K : ℕ) (text : List ℕ) : Type 0 where
  pub name : ℕ → ℕ
  pub rising : Rising n x K name
  pub is : text ≡ spelled K name
