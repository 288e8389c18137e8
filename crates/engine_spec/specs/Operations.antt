-- Row operations: u times one equation and t times another in the place of the first, u not 0, ask the same as before. Assumes nothing.
use Rattle.std.specs.Prelude.{ℕ, ◌*◌, ◌≤◌, ◌<◌, ℤ, length}
use Rattle.linear.specs.Systems.{Solution}
use Rattle.engine_spec.specs.Engine.{Work, combined, system}

-- two systems of p equations have the same solutions
pub record Alike (p q : ℕ) (a b : ℕ → ℕ → ℤ) : Type 0 where
  pub there : (t : ℕ → ℕ) → Solution p q a t → Solution p q b t
  pub back : (t : ℕ → ℕ) → Solution p q b t → Solution p q a t

module _ (p q : ℕ) (w : Work) (r s : ℕ) (u t : ℤ) (long : p * q ≤ length w.equations) (rp : r < p) where
  abbrev pub b : ℕ → ℕ → ℤ
  b = system q (combined q r s u t w)
