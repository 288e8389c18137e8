-- In which case a call gives each of its answers, over any machine; and that a refusal of the search is given again. Assumes nothing.
use Rattle.std.specs.Prelude.{◌≡◌, refl, ◌≢◌, ◌↔◌, ◌⊎◌, List, ℕ, ◌≤◌, ◌<◌}
use Rattle.std.proofs.Common.{arith}
use Rattle.definitions.specs.Answers.{Answer, Check, complete, go, paused, refuse, refused, started}
use Rattle.definitions.specs.Machine.{Machine, Outcome, after, call, call_steps, checked}
use Rattle.laws.specs.CheckLaws.{AllSilent, FirstDue, Renders, Rules}
use Rattle.theorems.specs.WholeSteps.{completes, pauses, refuses}

-- ---- a start

-- a start's answer, by the rules that its checks render
pub record StartAnswers (rules : Rules) (a : Answer) : Type 0 where
  pub refuses : (n : ℕ) (values : List ℕ) → (a ≡ refused n values) ↔ FirstDue rules n values
  pub starts : (a ≡ started) ↔ AllSilent rules

module _ {S : Type 0} (c : Check) (s : S) (work : S → Outcome S) (works : (work s).answer ≡ started) (rules : Rules) (r : Renders c rules) where
  abbrev pub outcome : Outcome S
  outcome = checked c s work

-- a call that answers "started" was let go on by its checks
pub started_goes : {S : Type 0} (c : Check) (s : S) (work : S → Outcome S) → (checked c s work).answer ≡ started → (c ≡ go) × (checked c s work ≡ work s)
unfolding checked
started_goes (refuse n values) s work e = absurd (let z : ◌≡◌ {A = ℕ} 0 1 = cc in omega arith)
started_goes go s work e = (refl, refl)

-- ---- the continuing call

-- The answer a of a continuing call with a budget that took `taken` steps to a state of the height given: refused by the first of the rules before the walk
-- that is in its case; else by how that state stands.
pub record CallAnswers (before within : Rules) (budget taken height : ℕ) (a : Answer) : Type 0 where
  pub completes : (a ≡ complete) ↔ (AllSilent before × (height ≡ 0))
  pub pauses : (a ≡ paused) ↔ (AllSilent before × (0 < height) × (taken ≡ budget))
  pub refuses : (n : ℕ) (values : List ℕ)
      → (a ≡ refused n values) ↔ (FirstDue before n values ⊎ (AllSilent before × (0 < height) × (taken < budget) × FirstDue within n values))
  pub never : a ≢ started

-- a machine's checks by rules
pub record Ruled {S : Type 0} (k : Machine S) (before within : S → Rules) : Type 1 where
  pub before_renders : (s : S) → Renders (k.before s) (before s)
  pub within_renders : (s : S) → Renders (k.refusals s) (within s)

module _ {S : Type 0} {k : Machine S} {before within : S → Rules} (ruled : Ruled k before within) (budget : ℕ) (s : S) where
  abbrev pub left : S
  left = (call budget k s).state

-- ---- the steps taken

-- "Before each step, in this order: height 0 answers "complete"; allowance used up answers "paused"; then the refusals of the search.": the steps that a
-- continuing call takes are at most its budget, and each is from a height above 0 where none of the refusals within the walk is due
pub record Paced {S : Type 0} (k : Machine S) (within : S → Rules) (budget : ℕ) (s : S) : Type 0 where
  pub few : call_steps budget k s ≤ budget
  pub high : (n : ℕ) → n < call_steps budget k s → 0 < k.height (after n k s)
  pub silent : (n : ℕ) → n < call_steps budget k s → AllSilent (within (after n k s))
