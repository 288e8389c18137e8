-- What a continuing call has once its checks have let it go on, what it writes beside the rows, and what it leaves. Assumes nothing.
use Rattle.std.specs.Prelude.{◌≡◌, true, List, ℕ, ◌*◌, ◌^◌, ◌≤◌, ◌<◌, T, ℤ, pos, nat_abs, get_or, length}
use Rattle.linear.specs.Tuples.{total}
use Rattle.definitions.specs.Refusals.{step_limit}
use Rattle.definitions.specs.Tables.{at, frozen}
use Rattle.engine_spec.specs.Beside.{AllMarked, Measured, SmallEquation, SmallTable, Valued, Worded, coefficient_limit, equation_at}
use Rattle.engine_spec.specs.Calls.{is_rising, is_row}
use Rattle.engine_spec.specs.Engine.{Work, run}
use Rattle.engine_spec.specs.Reduction.{is_small}
use Rattle.engine_spec.specs.Stage.{outcome, row}
use Rattle.engine_beside.specs.Writing.{Kept}
use Rattle.engine_stage.specs.Running.{answer_of, run_of}
use Rattle.engine_stage.specs.Standing.{Beyond, Ready, Sides, Unchanged, lent_of, next_of, stage_of}
use Rattle.engine_stage.specs.declared.stages.Ran.{Ran}
use Rattle.engine_stage.specs.declared.turns.Frame.{Frame}
use Rattle.engine_stage.specs.declared.turns.Next.{Next}
use Rattle.engine_beside.specs.Records.{outcome_of, record_of, work_of}
use Rattle.engine_beside.specs.declared.Outcome as made
use Rattle.engine_beside.specs.declared.Record.{Record}
use Rattle.engine_checks.specs.Room.{StageFits}
use Rattle.engine_checks.specs.Sizes.{Sized}
use Rattle.engine_resume.specs.EngineLaws.{stage_run}

-- ---- the record and the stage

abbrev pub start_of : Record → Next
start_of r = next_of r.rows r.taken r.degree r.upper r.lower r.steps.0 r.rows true

abbrev pub record_at : Record → Next → Record
record_at r s = record_of r.done r.equation r.fresh r.count.0 s.rows s.taken s.degree s.upper s.lower s.steps r.cap

abbrev pub frame_of : (q room : ℕ) → Record → Frame
frame_of q room r = record { q = q; m = r.count.0; room = room; from = r.equation * q; cap = r.cap }

-- ---- what the checks say

pub record Ordered (p q most room : ℕ) (w : Work) : Type 0 where
  pub few : w.count ≤ most
  pub fits : w.stage.rows ≤ room
  pub early : w.stage.steps ≤ step_limit
  pub marks : w.done < 2 ^ p
  pub free : w.equation < p → ¬ (T (frozen w.done w.equation))
  pub coefs : (k : ℕ) → k < p * q → nat_abs (get_or w.equations k (pos 0)) ≤ coefficient_limit
  pub basis : (i : ℕ) → i < w.count → T (is_row q (at w.basis q i))
  pub rows : (i : ℕ) → i < w.stage.rows → T (is_small q (row q w.stage i))
  pub rising : T (is_rising w.stage.rows (λ i. total (row q w.stage i) q) w.stage.degree)

pub record Entered (p q most room : ℕ) (equations : List ℤ) (basis sizes table : List ℕ) (x : Sides) (r : Record) : Type 0 where
  pub size : Sized p q
  pub whole : p * q ≤ length equations
  pub long : most * q ≤ length basis
  pub sized : most ≤ length sizes
  pub capped : most ≤ 1000000000
  pub fits : StageFits q room (length table) (length x.values) (length x.words) (length x.degrees) (length x.marks) (length x.mothers)
  pub going : r.equation < p
  pub order : Ordered p q most room (work_of equations basis table r)

-- ---- what is written

pub record Writable (coefs : List ℤ) (from : ℕ) (basis : List ℕ) (m sizes : ℕ) (table : List ℕ) (n q values words degrees marks mothers : ℕ) : Type 0 where
  pub small : SmallEquation q coefs from
  pub given : SmallTable q m basis
  pub sized : m ≤ sizes
  pub rows : SmallTable q n table
  pub valued : n ≤ values
  pub worded : n ≤ words
  pub measured : n ≤ degrees
  pub marked : n ≤ marks
  pub mothered : n ≤ mothers

pub record Written (coefs : List ℤ) (from : ℕ) (basis : List ℕ) (m : ℕ) (table : List ℕ) (n q : ℕ) (sizes : List ℕ) (x : Sides) (sizes' : List ℕ) (x' : Sides)
    : Type 0 where
  pub size : Measured q m basis sizes'
  pub kept : Kept 0 m sizes sizes'
  pub valued : Valued (equation_at coefs from) q n table x'.values
  pub values : Kept (pos 0) n x.values x'.values
  pub worded : Worded q n table x'.words
  pub words : Kept 0 n x.words x'.words
  pub measured : Measured q n table x'.degrees
  pub degrees : Kept 0 n x.degrees x'.degrees
  pub marked : AllMarked q (equation_at coefs from) n table x'.marks
  pub marks : Kept 0 n x.marks x'.marks
  pub mothers : x'.mothers ≡ x.mothers

-- ---- what a continuing call leaves

-- The turns: what the stage's own run answers and leaves.
pub record Advanced (q room budget : ℕ) (equations : List ℤ) (basis sizes table : List ℕ) (x : Sides) (r : Record) (a : Ran) (sizes' table' : List ℕ)
    (x' : Sides) : Type 0 where
  pub is : run_of (frame_of q room r) (lent_of equations basis sizes') budget table (start_of r)
      ≡ outcome (answer_of a.stopped) (stage_of (frame_of q room r) table' a.next)
  pub ready : Ready (frame_of q room r) (lent_of equations basis sizes') table' x' a.next
  pub rises : r.rows ≤ a.next.rows
  pub beyond : Beyond a.next.rows x x'
  pub mothers : Unchanged r.rows x.mothers x'.mothers
  pub kept : Kept 0 r.count.0 sizes sizes'

-- What stands beside the first n rows of a table, under the equation c: their values, words and degrees, and marks that are marks. From row n on all of it is
-- as it was.
pub record Sided (c : ℕ → ℤ) (q n : ℕ) (table : List ℕ) (x x' : Sides) : Type 0 where
  pub valued : Valued c q n table x'.values
  pub worded : Worded q n table x'.words
  pub measured : Measured q n table x'.degrees
  pub marked : AllMarked q c n table x'.marks
  pub beyond : Beyond n x x'

-- the rows that the stage under way has after its turns, before its end
abbrev pub rows_after : (q room budget : ℕ) → Work → ℕ
rows_after q room budget w = (stage_run q room budget w).stage.rows

-- The outcome is that of the definition; and what stands beside the rows that the stage had, and beside the basis that it was given.
pub record ResumedTo (p q most room budget : ℕ) (equations : List ℤ) (basis sizes table : List ℕ) (x : Sides) (r : Record) (o : made.Outcome)
    (basis' sizes' table' : List ℕ) (x' : Sides) : Type 0 where
  pub outcome : outcome_of o equations basis' table' ≡ run p q most room budget (work_of equations basis table r)
  pub few : rows_after q room budget (work_of equations basis table r) ≤ room
  pub sided : Sided (equation_at equations (r.equation * q)) q (rows_after q room budget (work_of equations basis table r)) table' x x'
  pub mothers : Unchanged r.rows x.mothers x'.mothers
  pub sized : Measured q r.count.0 basis sizes'
  pub kept : Kept 0 r.count.0 sizes sizes'

module _ {p q most room : ℕ} {equations : List ℤ} {basis sizes table : List ℕ} {x : Sides} {r : Record}
    (e : Entered p q most room equations basis sizes table x r) where
  abbrev pub f : ℕ → ℕ
  f i = total (at table q i) q
