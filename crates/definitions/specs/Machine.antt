-- A continuing call over any machine: document 01's "Before each step", whatever a run's states, its checks and its steps are. Assumes nothing.
use Rattle.std.specs.Prelude.{ℕ, zero, suc, Bool, true, false, eqb}
use Rattle.definitions.specs.Answers.{Answer, Check, complete, go, paused, refuse, refused}

-- What a continuing call goes by: its refusals before the walk; what is done ahead of everything else before each step (nothing, in a plain run); the height;
-- the refusals of the search; and a step.
pub record Machine (S : Type 0) : Type 0 where
  pub before : S → Check
  pub settle : S → S
  pub height : S → ℕ
  pub refusals : S → Check
  pub step : S → S

-- what a call answers, and what it leaves in all that it was lent
pub record Outcome (S : Type 0) : Type 0 where
  pub answer : Answer
  pub state : S

-- "Refusals 1 to 8 .. change nothing lent.", and those of the search "leave tables and record as they stood": else the work is done
unfoldable pub checked : {S : Type 0} → Check → S → (S → Outcome S) → Outcome S
checked (refuse n values) s work = record { answer = refused n values; state = s }
checked go s work = work s

-- "height 0 answers "complete"": else the work is done
unfoldable pub unless_done : {S : Type 0} → Bool → S → (S → Outcome S) → Outcome S
unless_done true s work = record { answer = complete; state = s }
unless_done false s work = work s

-- one turn: "Before each step, in this order: height 0 answers "complete"; allowance used up answers "paused"; then the refusals of the search."
unfoldable pub walk : {S : Type 0} → ℕ → Machine S → S → Outcome S
walk zero k s = unless_done (eqb (k.height (k.settle s)) 0) (k.settle s) (λ t. record { answer = paused; state = t })
walk (suc n) k s = unless_done (eqb (k.height (k.settle s)) 0) (k.settle s) (λ t. checked (k.refusals t) t (λ u. walk n k (k.step u)))

-- the continuing call, with a step budget (document 01: its allowance)
unfoldable pub call : {S : Type 0} → ℕ → Machine S → S → Outcome S
call budget k s = checked (k.before s) s (walk budget k)

-- ---- the number of whole steps that a continuing call takes

unfoldable pub moved : {S : Type 0} → Bool → Check → S → (S → ℕ) → ℕ
moved true c s more = 0
moved false (refuse n values) s more = 0
moved false go s more = suc (more s)

unfoldable pub walk_steps : {S : Type 0} → ℕ → Machine S → S → ℕ
walk_steps zero k s = 0
walk_steps (suc n) k s = moved (eqb (k.height (k.settle s)) 0) (k.refusals (k.settle s)) (k.settle s) (λ t. walk_steps n k (k.step t))

unfoldable pub steps_if : Check → ℕ → ℕ
steps_if (refuse n values) k = 0
steps_if go k = k

unfoldable pub call_steps : {S : Type 0} → ℕ → Machine S → S → ℕ
call_steps budget k s = steps_if (k.before s) (walk_steps budget k s)

-- the state after n whole steps
unfoldable pub after : {S : Type 0} → ℕ → Machine S → S → S
after zero k s = k.settle s
after (suc n) k s = after n k (k.step (k.settle s))
