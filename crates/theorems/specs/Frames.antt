-- What stays as it is while a run goes on: the rows listed before, the stack rows below the one taken off, and what a plain call keeps of the record.
-- Assumes nothing.
use Rattle.std.specs.Prelude.{◌≡◌, List}
use Prim.Native.Nat.{◌*◌, ◌+◌, ◌<◌, ◌≤◌, ℕ}
use Rattle.std.proofs.Math.ListN.{get_or}
use Rattle.definitions.specs.Input.{Input}
use Rattle.definitions.specs.Machine.{Machine, after, call, call_steps}
use Rattle.definitions.specs.Step.{level}
use Rattle.definitions.specs.Tables.{State, at}
use Rattle.theorems.specs.Maps.{Map, by_itself}

-- ---- the rows listed

-- what was listed in s, in rows of w numbers, stands in t: neither list has fewer rows, and those that it had are as they were
pub record RowsStay (w : ℕ) (s t : State) : Type 0 where
  pub found : s.run.found ≤ t.run.found
  pub rows : (e : ℕ) → e < s.run.found * w → get_or t.list e 0 ≡ get_or s.list e 0
  pub found2 : s.run.found2 ≤ t.run.found2
  pub rows₂ : (e : ℕ) → e < s.run.found2 * w → get_or t.second e 0 ≡ get_or s.second e 0

-- ---- the record

-- what a continuing call keeps of the record: the kind of the run, and the steps of another walk
pub record RecordKept (s t : State) : Type 0 where
  pub kind : t.run.kind ≡ s.run.kind
  pub steps2 : t.run.steps2 ≡ s.run.steps2

-- ---- the stack rows below the one taken off

-- rows of q numbers and their marks, below level h
abbrev pub RowsBelow : ℕ → ℕ → State → State → Type 0
RowsBelow q h s t = (l j : ℕ) → l < h → j ≤ q → at t.stack (q + 1) l j ≡ at s.stack (q + 1) l j

-- ---- of runs whose lists only grow

-- Of a machine on tables with rows of q unknowns, listed in rows of w numbers.
pub record RowsKept (k : Machine State) (q w : ℕ) : Type 0 where
  -- "Table rows above the height keep what they last held.": in each step, every entry of the stack table from there on
  pub above_kept : (budget : ℕ) (s : State) (n : ℕ) → n < call_steps budget k s → (e : ℕ) → (after (n + 1) k s).run.height * (q + 1) ≤ e
      → get_or (after (n + 1) k s).stack e 0 ≡ get_or (after n k s).stack e 0
  -- the rows listed before a call stay as they are, and in each step those and the stack rows below the one taken off
  pub rows_stay : (budget : ℕ) (s : State) → RowsStay w s (call budget k s).state
  pub rows_each : (n : ℕ) (s : State) → RowsStay w (after n k s) (after (n + 1) k s)
  pub rows_below : (n : ℕ) (s : State) → RowsBelow q (level (after n k s)) (after n k s) (after (n + 1) k s)

-- ---- runs from a lower bound

module _ (lower : List ℕ) (m : Map) where
  abbrev pub i : Input
  i = by_itself m
