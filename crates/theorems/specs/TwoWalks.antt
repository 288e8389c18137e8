-- A run from a lower bound (document 02, Job 4): its plain walk and then its walk above the bound, each with its own steps, count and list. Assumes nothing.
use Rattle.std.proofs.Math.Path.{◌≡◌}
use Rattle.std.specs.Prelude.{List}
use Prim.Native.Nat.{◌+◌, ℕ}
use Rattle.definitions.specs.Answers.{go}
use Rattle.definitions.specs.Calls.{resume}
use Rattle.definitions.specs.Input.{Input}
use Rattle.definitions.specs.Machine.{Outcome}
use Rattle.definitions.specs.Refusals.{resume_from_checks}
use Rattle.definitions.specs.Tables.{RunKind, State, capped_run, desk_by_desk, lower_above, lower_plain, plain_part, plain_run}
use Rattle.theorems.specs.Maps.{Map, by_itself}

-- ---- each step

-- a step of the plain walk counts under steps2 and leaves the list with its count and steps; a step of the walk above the bound counts under steps and leaves
-- the second list with its count and steps
abbrev pub Booked : RunKind → State → State → Type 0
Booked plain_run t u = ⊥
Booked capped_run t u = ⊥
Booked lower_plain t u =
    (u.run.steps2 ≡ t.run.steps2 + 1) × (u.run.steps ≡ t.run.steps) × (u.run.found ≡ t.run.found) × (u.list ≡ t.list)
Booked lower_above t u =
    (u.run.steps ≡ t.run.steps + 1) × (u.run.steps2 ≡ t.run.steps2) × (u.run.found2 ≡ t.run.found2) × (u.second ≡ t.second)
    × (u.run.kind ≡ lower_above)
Booked desk_by_desk t u = ⊥

-- what the walk above the bound keeps of the plain walk's: its steps, its count and its list
pub record PlainKept (s t : State) : Type 0 where
  pub kind : t.run.kind ≡ s.run.kind
  pub steps2 : t.run.steps2 ≡ s.run.steps2
  pub found2 : t.run.found2 ≡ s.run.found2
  pub second : t.second ≡ s.second

module _ (lower : List ℕ) (m : Map) where
  abbrev pub i : Input
  i = by_itself m

  module _ (budget : ℕ) (s : State) (e : s.run.kind ≡ lower_plain) (goes : resume_from_checks lower i s ≡ go) where
    -- the plain run, into the second list
    abbrev pub plainly : Outcome State
    plainly = resume budget i (plain_part s)
