-- What a stage promises. A turn keeps it sound, however often it is paused and gone on with; and a stage that says complete leaves rows that are closed under
-- the equation, none above another of its kind: those of value 0 are the minimal solutions of the system with the equation inside the cap, each once. No sweep
-- is needed. Assumes nothing.
use Rattle.std.proofs.Math.Path.{◌≡◌}
use Rattle.std.specs.Prelude.{Bool, T, ℤ}
use Prim.Native.Nat.{ℕ, ◌<◌}
use native.Mathlib.Omega.{arith}
use Rattle.linear.proofs.TestLaws.{count_at}
use Rattle.linear.specs.Tests.{count_to}
use Rattle.linear.specs.Tuples.{Same}
use Rattle.engine_spec.specs.Equations.{Holding, Picked}
use Rattle.engine_spec.specs.Signs.{Closed}
use Rattle.engine_spec.specs.Stage.{Stage, row}

-- nonzero solutions of the equations so far inside the cap, each minimal one among them, closed under the equation
pub record Ended (cap p q : ℕ) (a : ℕ → ℕ → ℤ) (c : ℕ → ℤ) (s : Stage) : Type 0 where
  pub holding : Holding cap p q a s.rows (row q s)
  pub closed : Closed cap q c s.rows (row q s)

-- ---- the next equation

-- A test picks rows in their order: a row picked and the row it was.
pub picked_from : (q n : ℕ) (row : ℕ → ℕ → ℕ) (f : ℕ → Bool) (n' : ℕ) (row' : ℕ → ℕ → ℕ) → Picked q n row f n' row' → (x : ℕ) → x < n'
    → (i : ℕ) × (i < n) × T (f i) × (count_to i f ≡ x) × Same q (row' x) (row i)
picked_from q n row f n' row' picked x l =
    let (i, il, fi, e) = count_at f n x (omega (arith, picked.count)) in
    (i, il, fi, e, rw e at (picked.rows i il fi))
