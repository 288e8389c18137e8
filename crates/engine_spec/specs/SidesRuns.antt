-- What the start for right sides and lower bounds (StartSides.antt) promises of its run: the loops, the smallest tuples that meet the right sides at or above
-- the bound, both lists of Job 1 where the bound is 0, and Job 4's where the right sides are. Open this file after Kinds.antt. They hold of every run that
-- nobody else alters, whatever calls came after the start. Assumes nothing.
use Rattle.std.specs.Prelude.{◌≡◌, List, ℤ, length}
use Prim.Native.Nat.{ℕ, suc, ◌*◌, ◌≤◌}
use Rattle.linear.specs.Systems.{Solution}
use Rattle.linear.specs.Tuples.{AtOrBelow}
use Rattle.definitions.specs.Input.{bound_of}
use Rattle.definitions.specs.System.{MinimalFrom, MinimalSolution, extend_to}
use Rattle.theorems.specs.Listed.{Exactly}
use Rattle.engine_spec.specs.Engine.{Work, system_of}
use Rattle.engine_spec.specs.Kinds.{FromBound, nothing}
use Rattle.engine_spec.specs.Promise.{RunsUnder}
use Rattle.engine_spec.specs.Promises.{map_of}
use Rattle.engine_spec.specs.Sides.{handed, handed_count, less_to}
use Rattle.engine_spec.specs.StartSides.{sides_system}

-- ---- what is promised

-- The work of a run that began with this start, with room for so many rows in the basis and in the stage's table.
abbrev pub SidesRun : (p q : ℕ) (coefs rights : List ℤ) (lower : List ℕ) → ℕ → ℕ → Work → Type 0
SidesRun p q coefs rights lower = RunsUnder 1 p (suc q) (sides_system p q coefs rights lower)

-- What its list holds once a call has said "complete": "at 0 the loops of the plain map", at 1, with the bound added, "the smallest tuples that meet the right
-- sides" at or above it, and nothing else: where there are none of these, nothing at or above the bound meets the right sides.
pub record SidesLists (p q : ℕ) (coefs rights : List ℤ) (lower : List ℕ) (list : List ℕ) (n : ℕ) : Type 0 where
  pub loops : (out : List ℕ) → handed_count 0 q list n * q ≤ length out
      → Exactly q (MinimalSolution (map_of p q coefs)) (handed 0 q nothing list n out) (handed_count 0 q list n)
  pub smallest : FromBound p q coefs rights (bound_of lower) list n

-- Job 4's list: "the minimal solutions at or above the floor are meant, and the zero tuple counts".
pub record Above (p q : ℕ) (coefs : List ℤ) (lower : List ℕ) (list : List ℕ) (n : ℕ) : Type 0 where
  pub smallest : (out : List ℕ) → handed_count 1 q list n * q ≤ length out
      → Exactly q (MinimalFrom (map_of p q coefs) (bound_of lower)) (handed 1 q (bound_of lower) list n out) (handed_count 1 q list n)
  pub empty : handed_count 1 q list n ≡ 0 → (t : ℕ → ℕ) → AtOrBelow q (bound_of lower) t → ¬ (Solution p q (system_of q coefs) t)

module _ (p q : ℕ) (coefs rights : List ℤ) (lower : List ℕ) where
  abbrev pub working : List ℤ
  working = extend_to p q coefs (less_to p q coefs rights (bound_of lower))
