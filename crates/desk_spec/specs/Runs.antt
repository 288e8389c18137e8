-- A run of the second walk through its calls, what is kept along it, and what it lists. Assumes nothing.
use Rattle.std.specs.Prelude.{◌≡◌, List, ℕ}
use Rattle.definitions.specs.Answers.{started}
use Rattle.definitions.specs.Tables.{State}
use Rattle.theorems.specs.Run.{SameRows}
use Rattle.desk_spec.specs.Desks.{Desk, desk_begin, desk_resume}
use Rattle.desk_spec.specs.Walk.{with_list}

-- what a continuing call leaves
abbrev pub left : ℕ → Desk → State → State
left budget d s = (desk_resume budget d s).state

-- A run of the second walk whose generators, second group, tables and record nobody else alters: a start that answered "started", continuing calls on what it
-- left, and, between two calls, another list table with the same rows.
pub data DeskRun (d : Desk) : State → Type 0 where
  begun : (s : State) → (desk_begin d s).answer ≡ started → DeskRun d (desk_begin d s).state
  continued : {s : State} → DeskRun d s → (budget : ℕ) → DeskRun d (left budget d s)
  relisted : {s : State} → DeskRun d s → (list : List ℕ) → SameRows d.q s.run.found s.list list → DeskRun d (with_list s list)
