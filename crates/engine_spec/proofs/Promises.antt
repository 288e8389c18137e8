-- Theorems about what specs/Promises.antt defines. Assumes nothing.
use Rattle.std.specs.Prelude.{◌≡◌, List, ℕ, ◌*◌, ◌≤◌, ◌<◌, ℤ, length}
use Rattle.std.proofs.Common.{le-div_iff_mul-le, mul-le-mul_right, arith}
use Rattle.linear.specs.Combinations.{Enumerates}
use Rattle.linear.specs.Systems.{Solution}
use Rattle.linear.specs.Tuples.{Same}
use Rattle.definitions.specs.Answers.{complete, go}
use Rattle.definitions.specs.System.{MinimalSolution}
use Rattle.theorems.specs.Listed.{Exactly}
use Rattle.linear.proofs.Loops.{Loop, MadeOfRows, made_of_loops}
use Rattle.engine_spec.specs.Base.{nothing}
use Rattle.engine_spec.specs.Calls.{resume, resume_checks}
use Rattle.engine_spec.specs.Done.{among}
use Rattle.engine_spec.specs.Engine.{Work, basis_row, system, system_of}
use Rattle.engine_spec.proofs.Own.{own_calls, runs_shape}
use Rattle.engine_spec.specs.Promise.{Runs, after_resume}
use Rattle.engine_spec.proofs.Promise.{run_complete, run_members, runs_whole, same_solutions}
use Rattle.engine_spec.specs.Promises.{left, map_of}

module _ (p q : ℕ) (coefs : List ℤ) {most room : ℕ} {w : Work} (r : Runs p q coefs most room w) where
  -- No continuing call of a run is refused before its first turn, where there is room for q rows in the basis.
  pub let_go_on : q ≤ most → resume_checks p q most room w ≡ go
  let_go_on = own_calls p q coefs r

  -- Complete: the rows of the basis are the minimal solutions of the map, each once and no other;
  pub complete_lists : (budget : ℕ) → (resume p q most room budget w).answer ≡ complete
      → Enumerates q (MinimalSolution (map_of p q coefs)) ((left p q coefs r) budget).count (basis_row q ((left p q coefs r) budget))
  complete_lists budget e = run_complete p q coefs r budget e

  -- and they lie in the table of the basis, as those of a complete run of the walk do in its list.
  pub complete_exactly : (budget : ℕ) → (resume p q most room budget w).answer ≡ complete
      → Exactly q (MinimalSolution (map_of p q coefs)) ((left p q coefs r) budget).basis ((left p q coefs r) budget).count
  complete_exactly budget e =
      let v = (left p q coefs r) budget in
      let c = complete_lists budget e in
      let whole = runs_whole nothing p q coefs (after_resume r budget) in
      let fits : v.count * q ≤ length v.basis = omega (arith, whole.long, mul-le-mul_right q whole.few) in
      record {
        part =
            record {
              room = (le-div_iff_mul-le {k = q} {x = v.count} {y = length v.basis} (runs_shape r).q_some).1 fits;
              only = c.only;
              once = c.once;
            };
        all = c.all;
      }

  -- Cut short between two stages: exactly the minimal solutions of the equations done, each once. The working system that they are of has the map's solutions.
  pub cut_short : w.equation ≡ p → Enumerates q (Loop p q (among w.done (system q w))) w.count (basis_row q w)
  cut_short rests = run_members p q coefs r rests

  pub works_on_the_map : (t : ℕ → ℕ) → (Solution p q (system_of q coefs) t → Solution p q (system q w) t)
      × (Solution p q (system q w) t → Solution p q (system_of q coefs) t)
  works_on_the_map t = let a = same_solutions nothing p q coefs r in (a.there t, a.back t)

  -- Every plan is made of the rows, and no shorter list of solutions does (document 02, Job 13).
  pub plans : (budget : ℕ) → (resume p q most room budget w).answer ≡ complete
      → MadeOfRows p q (system_of q coefs) ((left p q coefs r) budget).count (basis_row q ((left p q coefs r) budget))
  plans budget e = made_of_loops p q (system_of q coefs) ((left p q coefs r) budget).count (basis_row q ((left p q coefs r) budget)) (complete_lists budget e)

-- Any other list of the same tuples, the walk's and the desks' included, is the same set: each row of the one is a row of the other.
pub same_lists : (p q : ℕ) (coefs : List ℤ) {n m : ℕ} {one other : ℕ → ℕ → ℕ} → Enumerates q (MinimalSolution (map_of p q coefs)) n one
    → Enumerates q (MinimalSolution (map_of p q coefs)) m other → (i : ℕ) → i < n → (k : ℕ) × (k < m) × Same q (other k) (one i)
same_lists p q coefs {one = one} x y i l = y.all (one i) (x.only i l)
