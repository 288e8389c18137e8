-- What the first demand rests on for the second walk's calls: that the record counts the steps, what is let go on again, that a longer list table helps after
-- refusal 11, what each step, each sweep and each call leaves alone, and the marks of rows. Assumes nothing.
use Rattle.std.specs.Prelude.{◌≡◌, List, ◌*◌, ◌+◌, ◌<◌, ◌≤◌, ℕ, get_or, length}
use Rattle.linear.specs.Tests.{count_to}
use Rattle.definitions.specs.Tables.{State, capacity, frozen}
use Rattle.theorems.specs.Run.{SameRows}
use Rattle.desk_spec.specs.Desks.{Desk, desk_marks}
use Rattle.desk_spec.specs.Desks.{generator_count}
use Rattle.desk_spec.specs.Valid.{DeskValid}
use Rattle.desk_spec.specs.Walk.{with_list}

-- from t: another list table with the same rows, and room for one row more
pub data DeskLonger (d : Desk) (t : State) : State → Type 0 where
  longer_table : (list : List ℕ) → SameRows d.q t.run.found t.list list → t.run.found < capacity d.q list → DeskLonger d t (with_list t list)

-- ---- what is left alone

-- A start, a step or a sweep from s to t, with rows of w numbers in the stack table and of q in the list table: "Table rows above the height keep what they
-- last held.", and past the new count every entry of the list table keeps what it held.
pub record Kept (q : ℕ) (s t : State) : Type 0 where
  pub stack_length : length t.stack ≡ length s.stack
  pub above : (e : ℕ) → t.run.height * (q + 2) ≤ e → get_or t.stack e 0 ≡ get_or s.stack e 0
  pub list_length : length t.list ≡ length s.list
  pub past : (e : ℕ) → t.run.found * q ≤ e → get_or t.list e 0 ≡ get_or s.list e 0

-- What a call leaves alone: of the stack table "entries beyond" a row for each generator "are never touched"; nor is what stands in the list table past its
-- last whole row.
pub record Untouched (d : Desk) (s t : State) : Type 0 where
  pub stack_length : length t.stack ≡ length s.stack
  pub beyond : (e : ℕ) → generator_count d * (d.q + 2) ≤ e → get_or t.stack e 0 ≡ get_or s.stack e 0
  pub list_length : length t.list ≡ length s.list
  pub rest : (e : ℕ) → capacity d.q s.list * d.q ≤ e → get_or t.list e 0 ≡ get_or s.list e 0

-- record and tables in order, and what is none of the call's own untouched
pub record Leaves (d : Desk) (s t : State) : Type 0 where
  pub valid : DeskValid d t
  pub alone : Untouched d s t

-- ---- the marks

-- "Row k of the stack always carries exactly k − 1 marks." (from 0 here)
abbrev pub DeskMarked : Desk → State → Type 0
DeskMarked d t = (k : ℕ) → k < t.run.height → count_to (generator_count d) (frozen (desk_marks d.q t.stack k)) ≡ k
