-- A series of continuing calls over any machine, with foreign calls between them that leave the run as it is: what is kept along it where no step is refused.
-- Assumes nothing.
use Rattle.std.specs.Prelude.{◌≡◌, List, ◌∷◌, [], ℕ, ◌+◌, ◌<◌}
use Rattle.definitions.specs.Answers.{Answer, complete, go, paused}
use Rattle.definitions.specs.Machine.{Machine, after, call, call_steps}
use Rattle.theorems.specs.WholeSteps.{Goes, Steady}

-- the run's tables and record, the steps allowed to own calls and taken by them, and their answers, the last first
pub record Log (S : Type 0) : Type 0 where
  pub state : S
  pub allowed : ℕ
  pub taken : ℕ
  pub answers : List Answer

-- nothing allowed yet, taken or answered
abbrev pub outset : {S : Type 0} → S → Log S
outset s = record { state = s; allowed = 0; taken = 0; answers = [] }

-- after one own call more: "It has an allowance of its own."
abbrev pub owned : {S : Type 0} → ℕ → Machine S → Log S → Log S
owned budget k g =
    record {
      state = (call budget k g.state).state;
      allowed = g.allowed + budget;
      taken = g.taken + call_steps budget k g.state;
      answers = (call budget k g.state).answer ∷ g.answers;
    }

-- after what left the run's tables and record as t
abbrev pub passed : {S : Type 0} → S → Log S → Log S
passed t g = record { state = t; allowed = g.allowed; taken = g.taken; answers = g.answers }

pub data OwnCalls {S : Type 0} (k : Machine S) (s : S) : Log S → Type 0 where
  begun : OwnCalls k s (outset s)
  own : {g : Log S} → OwnCalls k s g → (budget : ℕ) → OwnCalls k s (owned budget k g)
  foreign : {g : Log S} → OwnCalls k s g → (t : S) → t ≡ g.state → OwnCalls k s (passed t g)

-- ---- answers, the last first

-- the last is "complete"
abbrev pub Completed : List Answer → Type 0
Completed answers = (earlier : List Answer) × (answers ≡ complete ∷ earlier)

pub data Pausing : List Answer → Type 0 where
  none : Pausing []
  more : {answers : List Answer} → Pausing answers → Pausing (paused ∷ answers)

-- "paused" any number of times, and then "complete" any number of times
pub data Orderly : List Answer → Type 0 where
  pausing : {answers : List Answer} → Pausing answers → Orderly answers
  completed : {answers : List Answer} → Orderly answers → Orderly (complete ∷ answers)

-- the run has ended, and its last own call said so; or each own call has used up its budget
pub data Status {S : Type 0} (k : Machine S) (g : Log S) : Type 0 where
  ended : k.height g.state ≡ 0 → (earlier : List Answer) → g.answers ≡ complete ∷ earlier → Orderly earlier → Status k g
  going_on : 0 < k.height g.state → g.allowed ≡ g.taken → Pausing g.answers → Status k g

-- ---- where a property is kept by every step, and no step is refused from a state that has it

pub record Unrefused {S : Type 0} (k : Machine S) (P : S → Type 0) : Type 0 where
  pub steady : Steady k
  pub resumes : (s : S) → P s → k.before s ≡ go
  pub settles : (s : S) → P s → P (k.settle s)
  pub goes : (s : S) → P s → 0 < k.height s → k.refusals s ≡ go
  pub keeps : (s : S) → P s → 0 < k.height s → P (k.step s)

module _ {S : Type 0} (k : Machine S) (P : S → Type 0) (u : Unrefused k P) where
  -- ---- the series

  module _ (s₀ : S) (p₀ : P s₀) (settled : k.settle s₀ ≡ s₀) (high : 0 < k.height s₀) where
    -- what is kept along the series
    pub record Along (g : Log S) : Type 0 where
      pub good : P g.state
      pub stepped : g.state ≡ after g.taken k s₀
      pub before : (i : ℕ) → i < g.taken → Goes k (after i k s₀)
      pub status : Status k g
