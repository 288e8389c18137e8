-- What the start, a row operation and the begin of a stage leave, and that it is what the definitions say. Assumes nothing.
use Rattle.std.specs.Prelude.{◌≡◌, cond, List, ℕ, suc, ◌+◌, ◌*◌, ◌≤◌, ◌<◌, ltb, ℤ, pos, get_or}
use Rattle.std.proofs.Common.{add-one, le-ltb, lt-ltb, inl, inr}
use Rattle.linear.proofs.Cases.{split}
use Rattle.linear.specs.Tests.{count_to}
use Rattle.linear.specs.Tuples.{unit}
use Rattle.definitions.specs.Answers.{started}
use Rattle.definitions.specs.Tables.{at, write_to}
use Rattle.laws.specs.Pack.{pack_to}
use Rattle.laws.specs.Sweep.{swept_to}
use Rattle.engine_spec.specs.Engine.{begun, begun_from, begun_from_under, begun_under, combined, fill_to, result, taken, taken_fresh}
use Rattle.engine_spec.specs.StartSides.{sides_system}
use Rattle.engine_rows.specs.Keeping.{lacks}
use Rattle.engine_rows.specs.Packing.{always}
use Rattle.engine_beside.specs.Records.{leaves, outcome_of, record_of, work_of}
use Rattle.calls.specs.declared.Answer.TheVariants.{Started}
use Rattle.engine_beside.specs.declared.Outcome.{Outcome}
use Rattle.engine_beside.specs.declared.Record.{Record}
use Rattle.engine_begins.specs.Writing.{combined_at}

-- a map that fits the working system, and a basis with room for the unit tuples
pub record Fitting (p q coefs equations basis : ℕ) : Type 0 where
  pub count : coefs ≡ p * q
  pub whole : p * q ≤ equations
  pub long : q * q ≤ basis
  pub few : p * q ≤ 1024

pub record Begun (p q : ℕ) (coefs equations : List ℤ) (basis : List ℕ) (o : Outcome) (equations' : List ℤ) (basis' : List ℕ) : Type 0 where
  pub outcome_is : o ≡ leaves Started (record_of 0 p q q 0 0 0 0 0 0 0)
  pub equations_is : equations' ≡ fill_to (p * q) equations 0 (λ k. get_or coefs k (pos 0))
  pub basis_is : basis' ≡ pack_to q q basis 0 always unit

pub begun_is : {p q : ℕ} {coefs equations : List ℤ} {basis : List ℕ} {o : Outcome} {equations' : List ℤ} {basis' : List ℕ} (table : List ℕ) (r : Record)
    → Begun p q coefs equations basis o equations' basis'
    → outcome_of o equations' basis' table ≡ result started (begun p q coefs (work_of equations basis table r))
unfolding begun_under
begun_is table r b = rw (b.outcome_is, b.equations_is, b.basis_is)

-- a map that fits the working system, a list of n rows, and a basis with room for them
pub record FittingList (p q coefs n rows equations basis : ℕ) : Type 0 where
  pub count : coefs ≡ p * q
  pub whole : p * q ≤ equations
  pub few : p * q ≤ 1024
  pub list : rows ≡ n * q
  pub long : n * q ≤ basis
  pub some : n * q ≤ 32000000000

pub record BegunFrom (p q : ℕ) (coefs : List ℤ) (n : ℕ) (rows : List ℕ) (equations : List ℤ) (basis : List ℕ) (o : Outcome) (equations' : List ℤ)
    (basis' : List ℕ) : Type 0 where
  pub outcome_is : o ≡ leaves Started (record_of 0 p q n 0 0 0 0 0 0 0)
  pub equations_is : equations' ≡ fill_to (p * q) equations 0 (λ k. get_or coefs k (pos 0))
  pub basis_is : basis' ≡ write_to (n * q) basis 0 (λ k. get_or rows k 0)

pub begun_from_is : {p q : ℕ} {coefs : List ℤ} {n : ℕ} {rows : List ℕ} {equations : List ℤ} {basis : List ℕ} {o : Outcome} {equations' : List ℤ}
    {basis' : List ℕ} (table : List ℕ) (r : Record) → BegunFrom p q coefs n rows equations basis o equations' basis'
    → outcome_of o equations' basis' table ≡ result started (begun_from p q coefs n rows (work_of equations basis table r))
unfolding begun_from_under
begun_from_is table r b = rw (b.outcome_is, b.equations_is, b.basis_is)

-- the start for right sides and lower bounds
pub record BegunSides (p q : ℕ) (coefs rights : List ℤ) (lower : List ℕ) (equations : List ℤ) (basis : List ℕ) (o : Outcome) (equations' : List ℤ)
    (basis' : List ℕ) : Type 0 where
  pub outcome_is : o ≡ leaves Started (record_of 0 p (q + 1) (q + 1) 0 0 0 0 0 0 1)
  pub equations_is : equations' ≡ fill_to (p * (q + 1)) equations 0 (λ k. get_or (sides_system p q coefs rights lower) k (pos 0))
  pub basis_is : basis' ≡ pack_to (q + 1) (q + 1) basis 0 always unit

pub begun_sides_is : {p q : ℕ} {coefs rights : List ℤ} {lower : List ℕ} {equations : List ℤ} {basis : List ℕ} {o : Outcome} {equations' : List ℤ}
    {basis' : List ℕ} (table : List ℕ) (r : Record) → BegunSides p q coefs rights lower equations basis o equations' basis'
    → outcome_of o equations' basis' table ≡ result started (begun_under 1 p (suc q) (sides_system p q coefs rights lower) (work_of equations basis table r))
unfolding begun_under
begun_sides_is {q = q} table r b = rw (b.outcome_is, b.equations_is, b.basis_is, add-one q)

pub record Operated (q r s : ℕ) (u t : ℤ) (equations : List ℤ) (run : Record) (o : Outcome) (equations' : List ℤ) : Type 0 where
  pub outcome_is : o ≡ leaves Started run
  pub equations_is : equations' ≡ fill_to q equations (r * q) (combined_at (r * q) (s * q) u t equations)

pub operated_is : {q r s : ℕ} {u t : ℤ} {equations : List ℤ} {run : Record} {o : Outcome} {equations' : List ℤ} (basis table : List ℕ)
    → Operated q r s u t equations run o equations'
    → outcome_of o equations' basis table ≡ result started (combined q r s u t (work_of equations basis table run))
unfolding combined
operated_is basis table b = rw (b.outcome_is, b.equations_is)

-- f below q is the fresh unknown; else there is none
pub record Taken (q e f : ℕ) (basis : List ℕ) (r : Record) (o : Outcome) (basis' : List ℕ) : Type 0 where
  pub fresh : f < q → (basis' ≡ swept_to r.count.0 q basis (lacks f (at basis q)))
      × (o ≡ leaves Started (record_of r.done e f (count_to r.count.0 (lacks f (at basis q))) 0 0 0 0 0 r.steps.0 r.cap))
  pub none : q ≤ f → (basis' ≡ basis) × (o ≡ leaves Started (record_of r.done e q r.count.0 0 0 0 0 0 r.steps.0 r.cap))

pub taken_is : {q e f : ℕ} {basis : List ℕ} {r : Record} {o : Outcome} {basis' : List ℕ} (equations : List ℤ) (table : List ℕ) → Taken q e f basis r o basis'
    → outcome_of o equations basis' table
    ≡ result started (cond (ltb f q) (taken_fresh q e f (work_of equations basis table r)) (taken q e (work_of equations basis table r)))
unfolding taken taken_fresh
taken_is {q} {e} {f} equations table b =
    elim (split f q) [
      | inl l ↦ let (x, y) = b.fresh l in rw (lt-ltb f q l, x, y)
      | inr l ↦ let (x, y) = b.none l in rw (le-ltb f q l, x, y)
    ]
