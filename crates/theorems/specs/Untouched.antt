-- What the calls of document 01 never touch, and the marks that rows carry after each. Assumes nothing.
use Rattle.std.specs.Prelude.{◌≡◌, List, ◌*◌, ◌+◌, ◌<◌, ◌≤◌, ℕ}
use Rattle.std.proofs.Math.ListN.{get_or, length}
use Rattle.linear.specs.Tests.{count_to}
use Rattle.definitions.specs.Input.{Input, system_of}
use Rattle.definitions.specs.Tables.{State, frozen}
use Rattle.definitions.specs.Tables.{stack_marks}
use Rattle.laws.specs.LowerLaws.{ValidFrom}
use Rattle.theorems.specs.Maps.{Map, by_itself}
use Rattle.theorems.specs.Series.{Call, continuing, continuing_from, starting, starting_from}

-- What a call for q unknowns and list rows of w numbers leaves alone, that was lent s and leaves t.
pub record Untouched (q w : ℕ) (s t : State) : Type 0 where
  pub stack_length : length t.stack ≡ length s.stack
  -- "It needs q rows; entries beyond them are never touched."
  pub beyond : (e : ℕ) → q * (q + 1) ≤ e → get_or t.stack e 0 ≡ get_or s.stack e 0
  pub list_length : length t.list ≡ length s.list
  -- "List rows past the found count are not touched."
  pub past : (e : ℕ) → t.run.found * w ≤ e → get_or t.list e 0 ≡ get_or s.list e 0
  -- and of the second list
  pub second_length : length t.second ≡ length s.second
  pub past₂ : (e : ℕ) → t.run.found2 * w ≤ e → get_or t.second e 0 ≡ get_or s.second e 0

-- ---- one step

-- listing a solution writes its own row only
pub record Enlisting (w : ℕ) (s t : State) : Type 0 where
  pub grows : s.run.found ≤ t.run.found
  pub past : (e : ℕ) → t.run.found * w ≤ e → get_or t.list e 0 ≡ get_or s.list e 0
  pub grows₂ : s.run.found2 ≤ t.run.found2
  pub past₂ : (e : ℕ) → t.run.found2 * w ≤ e → get_or t.second e 0 ≡ get_or s.second e 0

-- ---- the calls

abbrev pub input_for : Call → Input
input_for (starting i) = i
input_for (starting_from lower m) = by_itself m
input_for (continuing budget i) = i
input_for (continuing_from budget lower m) = by_itself m

-- "Row k of the stack always carries exactly k − 1 marks." (from 0 here)
abbrev pub Marked : ℕ → State → Type 0
Marked q t = (k : ℕ) → k < t.run.height → count_to q (frozen (stack_marks q t k)) ≡ k

-- A call whose checks let it go on leaves rows with their marks, and what is none of its own untouched.
pub record Leaves (q w : ℕ) (s t : State) : Type 0 where
  pub marked : Marked q t
  pub untouched : Untouched q w s t

module _ (i : Input) (s : State) where
  abbrev pub n : ℕ
  n = (system_of i).q

module _ (lower : List ℕ) (m : Map) (s : State) where
  abbrev pub i : Input
  i = by_itself m

  abbrev pub Standing : State → Type 0
  Standing t = ValidFrom lower i t × Untouched i.q i.q s t
