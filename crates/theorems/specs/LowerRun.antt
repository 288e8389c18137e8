-- The states of a run from a lower bound (document 02, Job 4), what its two lists hold, and what is kept through its calls and at the change of walk: the plain
-- walk is a plain run into the second list, and a row of that list can be taken off any solution at or above a dropped child, so that none is missed. Assumes
-- nothing.
use Rattle.std.specs.Prelude.{◌≡◌, List}
use Prim.Native.Nat.{ℕ}
use Rattle.definitions.specs.Answers.{started}
use Rattle.definitions.specs.Calls.{resume_from, start_from}
use Rattle.definitions.specs.Input.{Input, above_system, bound_of, map_of}
use Rattle.definitions.specs.System.{MinimalSolution}
use Rattle.definitions.specs.Tables.{RunKind, State, capped_run, desk_by_desk, lower_above, lower_plain, plain_part, plain_run}
use Rattle.laws.specs.LowerLaws.{ValidFrom}
use Rattle.theorems.specs.Maps.{Map, by_itself}
use Rattle.theorems.specs.Link.{at_or_above, nonzero}
use Rattle.theorems.specs.Listed.{Exactly}
use Rattle.theorems.specs.Run.{SameRows, Sound, with_list}
use Rattle.theorems.specs.Run.{with_second}

-- A run that nobody else alters: a start that answered "started", continuing calls on what it left with the start's map and lower bound, and, between two
-- calls, other list tables with the same rows.
pub data RunFrom (lower : List ℕ) (m : Map) : State → Type 0 where
  started_from : (s : State) → (start_from lower (by_itself m) s).answer ≡ started → RunFrom lower m (start_from lower (by_itself m) s).state
  continued : {s : State} → RunFrom lower m s → (budget : ℕ) → RunFrom lower m (resume_from budget lower (by_itself m) s).state
  relisted : {s : State} → RunFrom lower m s → (list : List ℕ) → SameRows m.q s.run.found s.list list → RunFrom lower m (with_list s list)
  relisted₂ : {s : State} → RunFrom lower m s → (second : List ℕ) → SameRows m.q s.run.found2 s.second second → RunFrom lower m (with_second s second)

-- ---- what is kept, by the walk under way

-- of the plain walk: it is a plain run, and nothing is listed yet; of the walk above the bound: the second list holds the plain map's minimal solutions, all of
-- them
abbrev pub SoundBy : RunKind → List ℕ → Input → State → Type 0
SoundBy plain_run lower i s = ⊥
SoundBy capped_run lower i s = ⊥
SoundBy lower_plain lower i s = Sound (map_of i) nonzero (plain_part s) × (s.run.found ≡ 0)
SoundBy lower_above lower i s =
    Sound (above_system lower i) (at_or_above (bound_of lower)) s × Exactly i.q (MinimalSolution (map_of i)) s.second s.run.found2
SoundBy desk_by_desk lower i s = ⊥

pub record SoundFrom (lower : List ℕ) (i : Input) (s : State) : Type 0 where
  pub valid : ValidFrom lower i s
  pub holds : SoundBy s.run.kind lower i s

module _ (lower : List ℕ) (m : Map) where
  abbrev pub i : Input
  i = by_itself m
