-- The minimal circulations of a graph are its circuits: a row is minimal among the circulations exactly if the test `is_circuit` holds of it.
-- Assumes nothing.
use Prim.Native.Nat.{ℕ, ◌≤◌, ◌<◌}
use Rattle.linear.specs.Tuples.{Minimal}
use Rattle.single_spec.specs.First.{iterate}
use Rattle.single_spec.specs.Graph.{Circulation, Graph, lowest, next, order, size}
use Rattle.single_spec.specs.Returns.{Returns}

-- ---- the test, part by part

pub record Circuit (n : Graph) (x : ℕ → ℕ) : Type 0 where
  -- "every component .. is 0 or 1"
  pub small : (j : ℕ) → j < n.arcs → x j ≤ 1
  pub inside : (k : ℕ) → k < size n.arcs x → order n x k < n.arcs
  -- from the lowest, back to the lowest, when as many are met as the row names
  pub returns : Returns (next n x) (lowest n.arcs x) (size n.arcs x)

module _ (n : Graph) (x : ℕ → ℕ) where
  abbrev pub K : ℕ
  K = size n.arcs x

-- From some arc of the row the way leads back. The circuit cut out so is a circulation at or below the row, so it is the row.
module _ (n : Graph) (x : ℕ → ℕ) (b : Minimal n.arcs (Circulation n) x) where
  pub record Cut : Type 0 where
    pub z : ℕ
    pub L : ℕ
    pub low : z < n.arcs
    pub some : 0 < x z
    pub returns : Returns (next n x) z L

  module _ (c : Cut) where
    abbrev pub w : ℕ → ℕ
    w k = iterate (next n x) c.z k

-- ---- a circuit is a minimal circulation

module _ (n : Graph) (x : ℕ → ℕ) (r : Circuit n x) where
  abbrev pub N : ℕ
  N = size n.arcs x
