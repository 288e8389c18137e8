-- Document 02, job 14: "From one turn of a run left in the round to its next, with the same runs, turn length and dispatcher's record kept from
-- call to call, the others take at most seven turns' worth of steps." Assumes nothing.
use Rattle.std.specs.Prelude.{◌≡◌, List, [], ◌∷◌, ◌++◌, T, length}
use Prim.Native.Nat.{ℕ, suc, ◌+◌, ◌*◌, ◌≤◌, ◌<◌}
use Rattle.dispatch_spec.specs.RoundLaws.{ahead}
use Rattle.dispatch_spec.specs.RoundLaws.{Next}
use Rattle.dispatch_spec.specs.Dispatch.{Schedule, Share, Round, in_round, first_asked}
use Rattle.dispatch_spec.specs.Dispatch.{leave_turn, turn_of, opened, dispatch}
use Rattle.dispatch_spec.specs.Turns.{Turn, turn_taken, turns_of, taken}

-- ---- calls one after the other

-- "with the same runs, turn length and dispatcher's record kept from call to call": between two calls the number of the run served last is kept, and no
-- unfinished run is made a finished one. The tables, the parts, the maps and the records may be others: a run may be lent a longer list, for one.
pub record Kept (before after : Round) : Type 0 where
  pub last : after.last ≡ before.last
  pub unfinished : (i : ℕ) → 0 < (before.progress i).run.height → 0 < (after.progress i).run.height

-- what runs of this number go by in one call, with turns of this length
abbrev pub scheduled : ℕ → ℕ → (ℕ → Share) → Schedule
scheduled count quantum shares = record { count = count; shares = shares; quantum = quantum }

-- what the last call left, and the turns of all of them, the last first. Each call asks for a number of turns of its own.
pub data Calls (count quantum : ℕ) (r₀ : Round) : Round → List Turn → Type 0 where
  begun : Calls count quantum r₀ r₀ []
  call : {r : Round} {log : List Turn} → Calls count quantum r₀ r log → (r' : Round) → Kept r r' → (shares : ℕ → Share) → (turns : ℕ)
      → Calls count quantum r₀ (dispatch turns (scheduled count quantum shares) r').round (turns_of turns (scheduled count quantum shares) r' ++ log)

-- none of these turns is run i's
pub data NoneOf (i : ℕ) : List Turn → Type 0 where
  end : NoneOf i []
  more : {t : Turn} {log : List Turn} → ¬ (t.run ≡ i) → NoneOf i log → NoneOf i (t ∷ log)

-- ---- a run that waits

-- run i is in the round and unfinished; since its turn the others have had these turns, and each run at most one of them
pub record Waiting (count quantum : ℕ) (r : Round) (i : ℕ) (between : List Turn) : Type 0 where
  pub below : i < count
  pub stays : T (in_round r i)
  pub high : 0 < (r.progress i).run.height
  pub few : length between + suc (ahead count (first_asked count r.last) i) ≤ count
  pub worth : taken between ≤ length between * quantum

-- ---- turns and calls, one moment after the other

pub data Moments (count quantum : ℕ) (r₀ : Round) : Round → List Turn → Type 0 where
  here : Moments count quantum r₀ r₀ []
  turn : {r : Round} {log : List Turn} → Moments count quantum r₀ r log → (shares : ℕ → Share) → (i : ℕ) → Next count r i
      → Moments count quantum r₀ (leave_turn (scheduled count quantum shares) i r (turn_of (scheduled count quantum shares) i r))
      (turn_taken (scheduled count quantum shares) i r ∷ log)
  again : {r : Round} {log : List Turn} → Moments count quantum r₀ r log → (r' : Round) → Kept r r' → Moments count quantum r₀ (opened r') log

module _ (count quantum : ℕ) (some_run : 0 < count) (r₀ : Round) where
  module _ (shares : ℕ → Share) where
    abbrev pub d : Schedule
    d = scheduled count quantum shares
