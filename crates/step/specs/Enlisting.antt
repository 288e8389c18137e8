-- What listing a solution comes to. Assumes nothing.
use Rattle.std.specs.Prelude.{◌≡◌, Bool, true, false, List, ℕ, ◌*◌, leb, Result, Ok, Err}
use Rattle.definitions.specs.Step.{enlist_in, full_for, row_of, row_width, to_second}
use Rattle.definitions.specs.System.{Kind}
use Rattle.definitions.specs.Tables.{State, capacity, write_to}
use Rattle.calls.specs.declared.Refusal.{Refusal}
use Rattle.calls.specs.declared.Refusal.TheVariants.{ListFull}
use Rattle.step.specs.declared.Stepped.{Stepped}
use Rattle.step.specs.declared.Stepped.TheVariants.{Listed, ListedSecond}

-- a list with `found` rows of w numbers has no room for another
abbrev pub is_full : ℕ → ℕ → List ℕ → Bool
is_full w found list = leb (capacity w list) found

-- ---- one list: a full one is refused and stays, any other takes y as its next row

abbrev pub append_answer : Bool → Stepped → Result Stepped Refusal
append_answer true done = Err ListFull
append_answer false done = Ok done

abbrev pub list_after : Bool → ℕ → ℕ → (ℕ → ℕ) → List ℕ → List ℕ
list_after true w found y list = list
list_after false w found y list = write_to w list (found * w) y

pub record Appended (w found : ℕ) (y : ℕ → ℕ) (list after : List ℕ) (done : Stepped) (answer : Result Stepped Refusal) : Type 0 where
  pub answers : answer ≡ append_answer (is_full w found list) done
  pub leaves : after ≡ list_after (is_full w found list) w found y list

-- ---- the list of a solution: the answer, and both lists afterwards

abbrev pub list_answer : Bool → Bool → Result Stepped Refusal
list_answer b true = Err ListFull
list_answer false false = Ok Listed
list_answer true false = Ok ListedSecond

abbrev pub lists_after : Bool → Bool → ℕ → State → (ℕ → ℕ) → State
lists_after b true w s y = s
lists_after b false w s y = enlist_in b w s y 0

pub record Enlisted (k : Kind) (q : ℕ) (s : State) (x : ℕ → ℕ) (list second : List ℕ) (answer : Result Stepped Refusal) : Type 0 where
  pub answers : answer ≡ list_answer (to_second k x) (full_for k q s x)
  pub first : list ≡ (lists_after (to_second k x) (full_for k q s x) (row_width k q) s (row_of k x)).list
  pub other : second ≡ (lists_after (to_second k x) (full_for k q s x) (row_width k q) s (row_of k x)).second
