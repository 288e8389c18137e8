-- Theorems about what specs/Invariant.antt defines. Assumes nothing.
use Rattle.std.specs.Prelude.{◌≡◌, ℕ}
use Rattle.theorems.specs.View.{Listed, View}
use Rattle.theorems.proofs.Reaching.{all_listed}
use Rattle.theorems.specs.Basis.{Basis, Task}
use Rattle.theorems.specs.Invariant.{Invariant, reaching}

module _ {k : Task} {v : View} (inv : Invariant k v) where
  -- a finished run has listed the basis
  pub finished : v.height ≡ 0 → (t : ℕ → ℕ) → Basis k t → Listed k.q v t
  finished = all_listed (reaching inv)
