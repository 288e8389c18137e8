-- What the continuing call of a run from a lower bound leaves and answers: the rules that its refusals render, that the record counts the steps of both walks,
-- what is let go on again, that a longer list table helps after refusal 11, and what each step keeps. Assumes nothing.
use mathlib.Core.List.{List}
use Prim.Native.Nat.{◌+◌, ◌<◌, ℕ}
use Rattle.definitions.specs.Input.{Input}
use Rattle.definitions.specs.Tables.{RunKind, State, capacity, capped_run, desk_by_desk, lower_above, lower_plain, plain_run}
use Rattle.theorems.specs.Maps.{Map, by_itself}
use Rattle.theorems.specs.Run.{SameRows, with_lists}

-- the list of the walk under way has room for one row more of q numbers
abbrev pub RoomBy : ℕ → RunKind → State → Type 0
RoomBy q plain_run t = ⊥
RoomBy q capped_run t = ⊥
RoomBy q lower_plain t = t.run.found2 < capacity q t.second
RoomBy q lower_above t = t.run.found < capacity q t.list
RoomBy q desk_by_desk t = ⊥

-- from t: other list tables with the same rows, and room in that of the walk under way
pub data LongerFrom (q : ℕ) (t : State) : State → Type 0 where
  longer_lists : (list second : List ℕ) → SameRows q t.run.found t.list list → SameRows q t.run.found2 t.second second
      → RoomBy q t.run.kind (with_lists t list second) → LongerFrom q t (with_lists t list second)

module _ (lower : List ℕ) (m : Map) where
  abbrev pub i : Input
  i = by_itself m

  abbrev pub total : State → ℕ
  total s = s.run.steps + s.run.steps2
