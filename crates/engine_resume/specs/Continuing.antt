-- What the continuing call leaves, by what its checks find. Assumes nothing.
use Rattle.std.proofs.Math.Path.{◌≡◌}
use Rattle.std.specs.Prelude.{Bool, false, cond, ℕ, ◌≤◌, ltb, ℤ, length}
use mathlib.Core.List.{List}
use Rattle.definitions.specs.Answers as paper
use Rattle.engine_spec.specs.Calls as spec
use Rattle.engine_spec.specs.Beside.{Measured}
use Rattle.engine_spec.specs.Engine.{Result, Work, equation_of, rested}
use Rattle.engine_beside.specs.Writing.{Kept}
use Rattle.engine_stage.specs.Standing.{Sides, Unchanged}
use Rattle.engine_beside.specs.Records.{beside_of, lengths_of, outcome_of, work_of}
use Rattle.engine_beside.specs.declared.Outcome.{Outcome}
use Rattle.engine_beside.specs.declared.Record.{Record}
use Rattle.engine_resume.specs.Resuming.{Sided, rows_after}

abbrev pub lent_lengths : List ℕ → List ℕ → List ℕ → Sides → spec.Lengths
lent_lengths basis sizes table x =
    lengths_of basis table
    (beside_of (length sizes) (length x.values) (length x.words) (length x.degrees) (length x.marks) (length x.mothers))

-- ---- the continuing call

-- the check lets the call go on, and a stage is under way
unfoldable pub goes_on : paper.Check → (p equation : ℕ) → Bool
goes_on (paper.refuse n values) p equation = false
goes_on paper.go p equation = ltb equation p

-- The rows beside which the call writes: all that the stage under way has after its turns, before its end; and the rows of the basis that it was given.
abbrev pub rows_had : (p q most room budget : ℕ) → Work → ℕ
rows_had p q most room budget w = cond (goes_on (spec.resume_checks p q most room w) p w.equation) (rows_after q room budget w) 0

abbrev pub sizes_had : (p q most room : ℕ) → Work → ℕ
sizes_had p q most room w = cond (goes_on (spec.resume_checks p q most room w) p w.equation) w.count 0

-- What the call leaves of all that is lent, w being what it finds. The outcome is that of the definition. Refused before its work it has changed nothing. Where
-- no stage is under way it has changed nothing beside the rows. Else the tables beside the rows hold what belongs to the rows that the stage had, the one
-- beside
-- the basis the degrees of the rows that it was given; past these, and so past the room, nothing is changed. The mothers of the rows that it found are as they
-- were; those of later rows are proposals, which the next call does not trust.
pub record LeftBy (p q most room budget : ℕ) (w : Work) (sizes : List ℕ) (x : Sides) (o : Result) (sizes' : List ℕ) (x' : Sides) : Type 0 where
  pub outcome : o ≡ spec.resume p q most room budget w
  pub refused : (n : ℕ) (values : List ℕ) → spec.resume_checks p q most room w ≡ paper.refuse n values
      → (o.work ≡ w) × (sizes' ≡ sizes) × (x' ≡ x)
  pub rested : p ≤ w.equation → (sizes' ≡ sizes) × (x' ≡ x)
  pub few : rows_had p q most room budget w ≤ room
  pub sided : Sided (equation_of q w) q (rows_had p q most room budget w) o.work.stage.table x x'
  pub mothers : Unchanged w.stage.rows x.mothers x'.mothers
  pub sized : Measured q (sizes_had p q most room w) w.basis sizes'
  pub kept : Kept 0 (sizes_had p q most room w) sizes sizes'

abbrev pub ResumeLeft : (p q budget : ℕ) (equations : List ℤ) (basis sizes table : List ℕ) (x : Sides) → Record → Outcome → (basis' sizes' table' : List ℕ)
    (x' : Sides)
    → Type 0
ResumeLeft p q budget equations basis sizes table x r o basis' sizes' table' x' =
    LeftBy p q (spec.basis_room q (lent_lengths basis sizes table x)) (spec.stage_room q (lent_lengths basis sizes table x)) budget
    (work_of equations basis table r)
    sizes x (outcome_of o equations basis' table') sizes' x'

module _ (p q budget : ℕ) (equations : List ℤ) (basis sizes table : List ℕ) (x : Sides) (r : Record) where
  abbrev pub w : Work
  w = work_of equations basis table r
