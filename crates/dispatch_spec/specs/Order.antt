-- Document 02, job 14: whose turns a call gives, told by what the runs were handed over as and by the turns given so far. "round the unfinished runs (height
-- above 0), rising from the one after the run served last, whose number its record keeps (0 at first), as many turns as the call asks, refused ones counted. A
-- run that refuses or finishes leaves the round for that call." Assumes nothing.
use Rattle.std.proofs.Math.Path.{◌≡◌}
use Rattle.std.specs.Prelude.{◌≢◌, ◌⊎◌, Bool, ℕ, suc, ◌<◌, T, eqb, length}
use mathlib.Core.List.{List, [], ◌∷◌, ◌++◌}
use Rattle.std.proofs.Math.Option.{Option, none, some}
use Rattle.definitions.specs.Answers.{Answer, paused}
use Rattle.dispatch_spec.specs.RoundLaws.{Next, ahead}
use Rattle.dispatch_spec.specs.Dispatch.{Round, Schedule, either, first_asked, in_round}
use Rattle.dispatch_spec.specs.Dispatch.{stays_in}
use Rattle.dispatch_spec.specs.Fair.{NoneOf}
use Rattle.dispatch_spec.specs.Turns.{Turn, turn_taken}

-- ---- what the turns so far, the last first, say of a run

-- the answer of run i's last turn, if it had one
unfoldable pub last_answer : ℕ → List Turn → Option Answer
last_answer i [] = none
last_answer i (t ∷ log) = either (eqb i t.run) (some t.answer) (last_answer i log)

-- it is in the round: unfinished as it was handed over, or paused at its last turn
abbrev pub still_in : Round → List Turn → ℕ → Bool
still_in r log i = stays_in (r.progress i).run.height (last_answer i log)

-- the number of the run served last
abbrev pub last_served : Round → List Turn → ℕ
last_served r [] = r.last
last_served r (t ∷ log) = suc t.run

-- "rising from the one after the run served last": t's run is in the round, and none is that is asked before it
pub record InTurn (count : ℕ) (r : Round) (earlier : List Turn) (t : Turn) : Type 0 where
  pub below : t.run < count
  pub stays : T (still_in r earlier t.run)
  pub before : (j : ℕ) → j < count
      → ahead count (first_asked count (last_served r earlier)) j < ahead count (first_asked count (last_served r earlier)) t.run → ¬ (T (still_in r earlier j))

-- The turns of a call that asks for so many of them
pub record Given (turns count : ℕ) (r : Round) (log : List Turn) (last : ℕ) : Type 0 where
  -- "as many turns as the call asks, refused ones counted", or as many as there are before no run is left in the round
  pub asked : (length log ≡ turns) ⊎ ((length log < turns) × ((j : ℕ) → j < count → ¬ (T (still_in r log j))))
  -- each is that of the run whose turn it is
  pub in_turn : (later earlier : List Turn) (t : Turn) → log ≡ later ++ (t ∷ earlier) → InTurn count r earlier t
  -- "A run that refuses or finishes leaves the round for that call."
  pub leaves : (later earlier : List Turn) (t : Turn) → log ≡ later ++ (t ∷ earlier) → t.answer ≢ paused → NoneOf t.run later
  -- "whose number its record keeps"
  pub kept : last ≡ last_served r log

module _ (d : Schedule) (r₀ : Round) where
  pub record Told (r : Round) (log : List Turn) : Type 0 where
    pub rounds : (j : ℕ) → in_round r j ≡ still_in r₀ log j
    pub served : r.last ≡ last_served r₀ log
    pub ordered : (later earlier : List Turn) (t : Turn) → log ≡ later ++ (t ∷ earlier) → InTurn d.count r₀ earlier t

  module _ (r : Round) (log : List Turn) (told : Told r log) (i : ℕ) (n : Next d.count r i) where
    abbrev pub now : Turn
    now = turn_taken d i r
