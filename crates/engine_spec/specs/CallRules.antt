-- What holds of the engine's calls one after the other: "the same call again refuses again", after 31 more room goes on, a pause changes nothing, and a run's
-- calls do not pause for ever. That a run ends is not promised. A refused call leaves document 01's runs as they were. Assumes nothing.
use Rattle.std.specs.Prelude.{◌≡◌, List, ℕ, ◌+◌, ◌*◌, ◌≤◌, ◌<◌, ℤ, length}
use Rattle.definitions.specs.Answers.{paused}
use Rattle.definitions.specs.Tables.{State}
use Rattle.theorems.specs.Series.{Lending}
use Rattle.engine_spec.specs.Base.{Base}
use Rattle.engine_spec.specs.Calls.{combine, resume, take}
use Rattle.engine_spec.specs.Engine.{Work}
use Rattle.engine_spec.specs.Promise.{RunsOn, with_tables}
use Rattle.engine_spec.specs.ReductionLaws.{SameRows}

-- ---- calls do not pause for ever

-- Calls from a run on that nobody else alters, and the sum of the budgets of those that paused within a stage.
pub data Pausing (base : Base) (p q : ℕ) (coefs : List ℤ) : ℕ → ℕ → Work → ℕ → Type 0 where
  none : {most room : ℕ} {w : Work} → RunsOn base p q coefs most room w → Pausing base p q coefs most room w 0
  paused_there : {most room : ℕ} {w : Work} {sum : ℕ} → Pausing base p q coefs most room w sum → (budget : ℕ) → (resume p q most room budget w).answer ≡ paused
      → (resume p q most room budget w).work.equation < p → Pausing base p q coefs most room (resume p q most room budget w).work (sum + budget)
  else_resumed : {most room : ℕ} {w : Work} {sum : ℕ} → Pausing base p q coefs most room w sum → (budget : ℕ)
      → Pausing base p q coefs most room (resume p q most room budget w).work sum
  combining : {most room : ℕ} {w : Work} {sum : ℕ} → Pausing base p q coefs most room w sum → (r s : ℕ) (u t : ℤ)
      → Pausing base p q coefs most room (combine p q most room r s u t w).work sum
  taking : {most room : ℕ} {w : Work} {sum : ℕ} → Pausing base p q coefs most room w sum → (e f : ℕ)
      → Pausing base p q coefs most room (take p q most room e f w).work sum
  lent : {most room : ℕ} {w : Work} {sum : ℕ} → Pausing base p q coefs most room w sum → (most' room' : ℕ) (basis table : List ℕ)
      → SameRows q w.count w.basis basis → SameRows q w.stage.rows w.stage.table table → w.count ≤ most' → w.stage.rows ≤ room'
      → most' * q ≤ length basis → room' * q ≤ length table → Pausing base p q coefs most' room' (with_tables w basis table) sum

-- a call of the engine that is refused before its work leaves a run of document 01 as it was, whatever of its tables and record it was handed
module _ (l : Lending Work) (s : State) (p q : ℕ) (n : ℕ) (values : List ℕ) where
  abbrev pub handed : Work
  handed = l.handed s
