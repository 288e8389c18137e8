-- What the engine promises of a run that nobody else alters, whichever equations, row operations and fresh unknowns its caller hands over: when a call says
-- "complete", the basis holds exactly the minimal solutions of the map, each once; between two stages, those of the equations done. Assumes nothing.
use Rattle.std.specs.Prelude.{◌≡◌, List, ℤ, pos, length}
use Prim.Native.Nat.{ℕ, ◌+◌, ◌*◌, ◌≤◌, ◌<◌}
use native.Mathlib.Omega.{arith}
use Rattle.std.proofs.Math.IntN.{nat_abs}
use Rattle.std.proofs.Math.ListN.{get_or}
use Rattle.linear.specs.Combinations.{Enumerates}
use Rattle.linear.specs.Tuples.{unit}
use Rattle.definitions.specs.Answers.{started}
use Rattle.definitions.specs.System.{most_component}
use Rattle.definitions.specs.Tables.{at, write_to}
use Rattle.laws.specs.Pack.{pack_to}
use Rattle.engine_spec.specs.Base.{Base, nothing, under}
use Rattle.engine_spec.specs.Beside.{coefficient_limit, most_columns, most_rows}
use Rattle.engine_spec.specs.Calls.{combine, resume, start_from_under, start_under, take}
use Rattle.engine_spec.specs.Caps.{Inside}
use Rattle.engine_spec.specs.Engine.{Work, always, basis_row, begun_under, fill_to}
use Rattle.engine_spec.specs.Equations.{LoopInside}
use Rattle.engine_spec.specs.Moved.{with_table}
use Rattle.engine_spec.specs.ReductionLaws.{SameRows}
use Rattle.engine_spec.specs.Sound.{Given}
use Rattle.engine_spec.specs.Stage.{row}
use Rattle.engine_spec.specs.Whole.{Standing, Whole, between, so_far, under_way, with_fresh}

-- what a start writes for the working system
module _ (p q : ℕ) (coefs : List ℤ) (w : Work) (numbers : p * q ≤ length w.equations) where
  abbrev pub written : List ℤ
  written = fill_to (p * q) w.equations 0 (λ k. get_or coefs k (pos 0))

module _ (base : Base) (plain : base.p ≡ 0) (p q : ℕ) (coefs : List ℤ) (most room : ℕ) (w : Work) (numbers : p * q ≤ length w.equations) (some : q ≤ most)
    (long : most * q ≤ length w.basis) (wide : room * q ≤ length w.stage.table)
    (range : (k : ℕ) → k < p * q → nat_abs (get_or coefs k (pos 0)) ≤ coefficient_limit) where
  abbrev pub units : List ℕ
  units = pack_to q q w.basis 0 always unit

-- ---- the start from a list

module _ (base : Base) (p q : ℕ) (coefs : List ℤ) (n : ℕ) (rows : List ℕ) (most room : ℕ) (w : Work) (numbers : p * q ≤ length w.equations) (some : n ≤ most)
    (long : most * q ≤ length w.basis) (wide : room * q ≤ length w.stage.table)
    (range : (k : ℕ) → k < p * q → nat_abs (get_or coefs k (pos 0)) ≤ coefficient_limit)
    (small : (i j : ℕ) → i < n → j < q → at rows q i j ≤ most_component)
    (whole_list : Enumerates q (LoopInside base.cap base.p q base.a) n (at rows q)) where
  abbrev pub list : List ℕ
  list = write_to (n * q) w.basis 0 (λ k. get_or rows k 0)

-- ---- between two stages

-- where no stage is under way, the basis is that of the equations done
pub resting_given : (base : Base) (p q : ℕ) (w : Work) → Standing base p q w → w.equation ≡ p
    → Given base.cap (base.p + p) q (so_far base q w) w.count (basis_row q w)
resting_given base p q w (between e z given) none = given
resting_given base p q w (under_way l n f given sound) none = given
resting_given base p q w (with_fresh l n f o m r given sound) none = absurd (omega arith)

module _ (base : Base) (p q : ℕ) (a : ℕ → ℕ → ℤ) (most room : ℕ) (w : Work) (whole : Whole base p q a most room w) (rests : w.equation ≡ p) where
  abbrev pub given : Given base.cap (base.p + p) q (so_far base q w) w.count (basis_row q w)
  given = resting_given base p q w whole.standing rests

-- ---- tables lent anew

abbrev pub with_tables : Work → List ℕ → List ℕ → Work
with_tables w basis table =
    record {
      equations = w.equations;
      basis = basis;
      count = w.count;
      done = w.done;
      equation = w.equation;
      fresh = w.fresh;
      stage = with_table w.stage table;
    }

-- ---- the promise

-- What a start that has checks of its own comes to, once they let it go on: sizes and room within their limits, and working coefficients in their range.
pub record Startable (p q : ℕ) (coefs : List ℤ) (most : ℕ) (w : Work) : Type 0 where
  pub equations : (1 ≤ p) × (p ≤ most_rows)
  pub unknowns : (1 ≤ q) × (q ≤ most_columns)
  pub numbers : p * q ≤ length w.equations
  pub some : q ≤ most
  pub range : (k : ℕ) → k < p * q → nat_abs (get_or coefs k (pos 0)) ≤ coefficient_limit

-- The work of a run that nobody else alters, with room for so many rows in the basis and in the stage's table: a start that is let go on, plain, with checks
-- of its own (StartSides.antt) or from the whole list of the equations before, inside the cap, then any calls, refused ones included, with any arguments, and
-- tables lent anew with the rows that were in them. That the list handed over is the whole list of the equations before cannot be checked: it is the premise.
pub data RunsOn (base : Base) (p q : ℕ) (coefs : List ℤ) : ℕ → ℕ → Work → Type 0 where
  after_start : (most room : ℕ) (w : Work) → base.p ≡ 0 → most * q ≤ length w.basis → room * q ≤ length w.stage.table
      → (start_under base.cap p q coefs most w).answer ≡ started → RunsOn base p q coefs most room (start_under base.cap p q coefs most w).work
  after_begin : (most room : ℕ) (w : Work) → base.p ≡ 0 → Startable p q coefs most w → most * q ≤ length w.basis → room * q ≤ length w.stage.table
      → RunsOn base p q coefs most room (begun_under base.cap p q coefs w)
  after_start_from : (n : ℕ) (rows : List ℕ) (most room : ℕ) (w : Work)
      → Enumerates q (LoopInside base.cap base.p q base.a) n (at rows q) → most * q ≤ length w.basis
      → room * q ≤ length w.stage.table → (start_from_under base.cap p q coefs n rows most w).answer ≡ started
      → RunsOn base p q coefs most room (start_from_under base.cap p q coefs n rows most w).work
  after_combine : {most room : ℕ} {w : Work} → RunsOn base p q coefs most room w → (r s : ℕ) (u t : ℤ)
      → RunsOn base p q coefs most room (combine p q most room r s u t w).work
  after_take : {most room : ℕ} {w : Work} → RunsOn base p q coefs most room w → (e f : ℕ) → RunsOn base p q coefs most room (take p q most room e f w).work
  after_resume : {most room : ℕ} {w : Work} → RunsOn base p q coefs most room w → (budget : ℕ)
      → RunsOn base p q coefs most room (resume p q most room budget w).work
  lent_anew : {most room : ℕ} {w : Work} → RunsOn base p q coefs most room w → (most' room' : ℕ) (basis table : List ℕ)
      → SameRows q w.count w.basis basis → SameRows q w.stage.rows w.stage.table table → w.count ≤ most' → w.stage.rows ≤ room'
      → most' * q ≤ length basis → room' * q ≤ length table → RunsOn base p q coefs most' room' (with_tables w basis table)

-- from no equations: a run on the map alone, with a cap and without
abbrev pub RunsUnder : (cap p q : ℕ) (coefs : List ℤ) → ℕ → ℕ → Work → Type 0
RunsUnder cap p q coefs = RunsOn (under cap) p q coefs

abbrev pub Runs : (p q : ℕ) (coefs : List ℤ) → ℕ → ℕ → Work → Type 0
Runs p q coefs = RunsOn nothing p q coefs

-- no row of the basis and none of the stage's table passes the cap
pub record StaysInside (cap q : ℕ) (w : Work) : Type 0 where
  pub listed : (i : ℕ) → i < w.count → Inside cap q (basis_row q w i)
  pub staged : (i : ℕ) → i < w.stage.rows → Inside cap q (row q w.stage i)
