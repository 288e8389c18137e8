-- JOB 12 OF DOCUMENT 02, the minimal solutions of a single-file map (its loops): the statements, each under its words, and then why they hold. Open this
-- file first. They are about the definitions of crate `single_file` (Profile: the profile and the tests; Graph: the order). Unknowns and equations (in the
-- trade: activities and trays) count from 0. Assumes nothing.
use Rattle.std.specs.Prelude.{◌≡◌, ◌≢◌, ◌↔◌, ◌⊎◌, ℕ, suc, ◌≤◌, ◌<◌, T, pos, negsuc}
use Rattle.definitions.specs.System.{MinimalSolution, System, coef, column}
use Rattle.laws.specs.CheckLaws.{Decides, placed}
use Rattle.single_spec.specs.Graph.{size}
use Rattle.single_spec.specs.Profile.{Idle, SingleFile, check30, is_circuit_of, circuit_order, graph}
use Rattle.single_spec.specs.Circuits.{Circuit}

-- ---- the order of a minimal solution

-- "each puts its document (its 1) where the next takes one (its −1), back to the first, passing no tray twice"
pub record ClosedWalk (m : System) (K : ℕ) (o : ℕ → ℕ) : Type 0 where
  pub node : ℕ → ℕ
  pub inside : (k : ℕ) → k < K → node k < m.p
  pub head : (k : ℕ) → k < K → coef m (node k) (o k) ≡ pos 1
  pub tail : (k : ℕ) → k < K → coef m (node k) (o (suc k)) ≡ negsuc 0
  pub back : o K ≡ o 0
  pub no_node_twice : (a b : ℕ) → a < b → b < K → node a ≢ node b

-- "a single column of zeros"
pub record ZeroColumn (m : System) (K : ℕ) (o : ℕ → ℕ) : Type 0 where
  pub alone : K ≡ 1
  pub zeros : Idle m.p (column m (o 0))

-- o 0 .. o (K - 1) is the order of the minimal solution x
pub record Ordered (m : System) (x : ℕ → ℕ) (K : ℕ) (o : ℕ → ℕ) : Type 0 where
  -- "the named activities .. can be ordered": all of them, each once, and no other
  pub named : (k : ℕ) → k < K → (o k < m.q) × (0 < x (o k))
  pub all : (j : ℕ) → j < m.q → 0 < x j → (k : ℕ) × (k < K) × (o k ≡ j)
  pub once : (a b : ℕ) → a < b → b < K → o a ≢ o b
  -- "The order begins with the lowest number; for a zero column it is that number."
  pub some : 0 < K
  pub begins : (j : ℕ) → j < m.q → 0 < x j → o 0 ≤ j
  pub way : ZeroColumn m K o ⊎ ClosedWalk m K o

-- ---- the statements

pub record SolutionsOf (m : System) : Type 0 where
  -- "every component of a minimal loop is 0 or 1 there"
  pub zero_or_one : (x : ℕ → ℕ) → MinimalSolution m x → (j : ℕ) → j < m.q → x j ≤ 1
  -- the order that `circuit_order` computes is an order of the minimal solution
  pub ordered : (x : ℕ → ℕ) → MinimalSolution m x → Ordered m x (size m.q x) (circuit_order m x)
  -- and the only one
  pub no_other : (x : ℕ → ℕ) → MinimalSolution m x → (K : ℕ) (o : ℕ → ℕ) → Ordered m x K o → (K ≡ size m.q x) × ((k : ℕ) → k < K → o k ≡ circuit_order m x k)
  -- the test `is_circuit_of` holds of the minimal solutions and of no other row
  pub test : (x : ℕ → ℕ) → T (is_circuit_of m x) ↔ MinimalSolution m x
  -- "30, a row that is no minimal loop, with the first such row"
  pub refuses_30 : (found : ℕ) (row : ℕ → ℕ → ℕ) → Decides (check30 m found row) (placed 30 found (λ i. ¬ (MinimalSolution m (row i))))

-- ---- why

module _ (m : System) (profile : SingleFile m) (x : ℕ → ℕ) where
  module _ (r : Circuit (graph m) x) where
    abbrev pub K : ℕ
    K = size m.q x

    abbrev pub o : ℕ → ℕ
    o k = circuit_order m x k
