-- The seat's calls beside the office's own: what the seat lets through the office does, and a call of the seat that is not refused by 24 is the office's.
-- Assumes nothing.
use Rattle.std.specs.Prelude.{◌≡◌, ◌≢◌, ◌⊎◌, List, [], ℤ}
use Prim.Native.Nat.{ℕ, ◌<◌}
use Rattle.definitions.specs.Answers.{go, refuse, refused}
use Rattle.definitions.specs.Input.{Input, input_of}
use Rattle.definitions.specs.Machine.{Machine, call, call_steps, walk, walk_steps}
use Rattle.definitions.specs.Step.{step}
use Rattle.definitions.specs.Tables.{State}
use Rattle.theorems.specs.WholeSteps.{Goes}
use Rattle.seat_spec.specs.Training.{seat_input}

-- "A training run that is not refused lists what the office run lists after as many steps.": a call of the seat that its checks let go on, from s
pub record AsOffice (budget : ℕ) (seat office : Machine State) (s : State) : Type 0 where
  -- the office lets it go on too
  pub through : office.before s ≡ go
  -- the office's call with as many steps allowed as the seat took takes them, and leaves the same tables and record
  pub as_many : call_steps (call_steps budget seat s) office s ≡ call_steps budget seat s
  pub leaves : (call (call_steps budget seat s) office s).state ≡ (call budget seat s).state
  -- and where 24 is not given, the office's call with the seat's budget is the seat's: answer, tables, record and steps
  pub same : (call budget seat s).answer ≢ refused 24 []
      → (call budget office s ≡ call budget seat s) × (call_steps budget office s ≡ call_steps budget seat s)

-- ---- two machines with the same steps, of which one refuses by 24 where the other may go on, from states that have a property which steps keep

module _ (k c : Machine State) (P : State → Type 0)
    (settles : (s : State) → k.settle s ≡ c.settle s) (height : (s : State) → k.height s ≡ c.height s) (steps : (s : State) → k.step s ≡ c.step s)
    (settled : (s : State) → P s → P (k.settle s)) (kept : (s : State) → P s → Goes k s → P (k.step s))
    (agree : (s : State) → P s → 0 < k.height s → (k.refusals s ≡ c.refusals s) ⊎ (k.refusals s ≡ refuse 24 [])) where
  abbrev pub Follows : ℕ → State → Type 0
  Follows n s = ((walk (walk_steps n k s) c s).state ≡ (walk n k s).state) × (walk_steps (walk_steps n k s) c s ≡ walk_steps n k s)

  abbrev pub Alike : ℕ → State → Type 0
  Alike n s = ((walk n k s).answer ≡ refused 24 []) ⊎ ((walk n c s ≡ walk n k s) × (walk_steps n c s ≡ walk_steps n k s))

module _ (p q : ℕ) (coefs : List ℤ) where
  abbrev pub i : Input
  i = seat_input p q coefs

  abbrev pub o : Input
  o = input_of p q coefs
