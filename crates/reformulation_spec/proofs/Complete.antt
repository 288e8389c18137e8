-- Theorems about what specs/Complete.antt defines. Assumes nothing.
use Rattle.std.specs.Prelude.{◌≡◌, List, ℕ, suc, ◌+◌, ◌*◌, ◌<◌, ℤ, length}
use Rattle.std.proofs.Common.{arith}
use Rattle.linear.specs.Combinations.{Enumerates}
use Rattle.definitions.specs.Answers.{complete, go}
use Rattle.definitions.specs.Input.{bound_of}
use Rattle.definitions.specs.System.{MinimalSolution}
use Rattle.definitions.specs.Tables.{at}
use Rattle.engine_spec.specs.Calls.{resume}
use Rattle.engine_spec.specs.Engine.{Work}
use Rattle.engine_spec.specs.Equations.{LoopInside}
use Rattle.engine_spec.specs.Kinds.{BothLists}
use Rattle.engine_spec.specs.Promise.{Runs, RunsUnder}
use Rattle.engine_spec.proofs.Promise.{under_complete}
use Rattle.engine_spec.specs.SidesRuns.{SidesLists, SidesRun}
use Rattle.engine_spec.proofs.SidesRuns.{both_listed, sides_listed}
use Rattle.reformulation_spec.proofs.Promises.{map_of, projected_under}
use Rattle.reformulation_spec.specs.Reformulation.{Reformulation, map_row, project_checks, projected, reformulates, unknowns}
use Rattle.reformulation_spec.specs.Complete.{left, sides_reformulation}

-- a run that the engine's start began on the other map, at the continuing call that says "complete"; and the call that projects what it left
module _ (r : Reformulation) (yes : reformulates r ≡ go) (cap : ℕ) {most room : ℕ} {w : Work}
    (run : RunsUnder cap r.m (unknowns r) r.other most room w) (budget : ℕ)
    (e : (resume r.m (unknowns r) most room budget w).answer ≡ complete) where
  pub projected_inside : (out : List ℕ) → project_checks r.q r.k (left r yes cap run budget e).count (left r yes cap run budget e).basis out ≡ go
      → Enumerates r.q (LoopInside cap r.p r.q (map_row r)) (left r yes cap run budget e).count
      (at (projected r.q r.k (left r yes cap run budget e).count (left r yes cap run budget e).basis out) r.q)
  projected_inside out fits =
      projected_under r yes cap (left r yes cap run budget e).count (left r yes cap run budget e).basis out fits
      (under_complete cap r.m (unknowns r) r.other run budget e)

-- without a cap, the list of the map
pub complete_projected : (r : Reformulation) → reformulates r ≡ go → {most room : ℕ} {w : Work} → Runs r.m (unknowns r) r.other most room w
    → (budget : ℕ) → (resume r.m (unknowns r) most room budget w).answer ≡ complete
    → let v = (resume r.m (unknowns r) most room budget w).work in
    (out : List ℕ) → project_checks r.q r.k v.count v.basis out ≡ go
    → Enumerates r.q (MinimalSolution (map_of r.p r.q r.coefs)) v.count (at (projected r.q r.k v.count v.basis out) r.q)
complete_projected r shown run = projected_inside r shown 0 run

-- Right sides and a lower bound: the system of the start for them, with the extra unknown first, is the map that another stands in the place of; and the run
-- began with such a start itself, on a map whose own system is the other one. Its list without the further unknowns is both lists of the map.
module _ (p q : ℕ) (coefs rights : List ℤ) (lower : List ℕ) (some : 0 < q) (numbers : length coefs ≡ p * q) (k m : ℕ)
    (extended onto back above : List ℤ) (coefs' rights' : List ℤ) (lower' : List ℕ) where
  module _ (shown : reformulates (sides_reformulation p q coefs rights lower some numbers k m extended onto back above coefs' rights' lower') ≡ go)
      {most room : ℕ} {w : Work} (run : SidesRun m (q + k) coefs' rights' lower' most room w)
      (budget : ℕ) (e : (resume m (suc (q + k)) most room budget w).answer ≡ complete) (out : List ℕ)
      (fits : let v = (resume m (suc (q + k)) most room budget w).work in project_checks (suc q) k v.count v.basis out ≡ go) where
    rows_projected : let v = (resume m (suc (q + k)) most room budget w).work in
        Enumerates (suc q) (LoopInside 1 p (suc q)
        (map_row (sides_reformulation p q coefs rights lower some numbers k m extended onto back above coefs' rights' lower'))) v.count
        (at (projected (suc q) k v.count v.basis out) (suc q))
    rows_projected =
        let width : suc (q + k) ≡ suc q + k = omega arith in
        rw width (projected_inside (sides_reformulation p q coefs rights lower some numbers k m extended onto back above coefs' rights' lower') shown 1
        (rw width at run) budget (rw width at e) out (rw width at fits))

    -- The minimal solutions of the map, and the smallest tuples at or above the bound that meet the right sides, an empty list meaning that there is none.
    -- Where the right sides are 0 the latter is Job 4's (`Above-Listed` of engine_spec/specs/SidesRuns),
    pub sides_projected : let v = (resume m (suc (q + k)) most room budget w).work in
        SidesLists p q coefs rights lower (projected (suc q) k v.count v.basis out) v.count
    sides_projected = sides_listed p q coefs rights lower some numbers 1 _ _ rows_projected

    -- and where the bound is 0 they are both lists of Job 1.
    pub both_projected : ((j : ℕ) → j < q → bound_of lower j ≡ 0)
        → let v = (resume m (suc (q + k)) most room budget w).work in BothLists p q coefs rights (projected (suc q) k v.count v.basis out) v.count
    both_projected free = both_listed p q coefs rights lower free some numbers 1 _ _ rows_projected
