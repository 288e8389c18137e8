-- Theorems about what specs/Reaching.antt defines. Assumes nothing.
use Rattle.std.specs.Prelude.{◌≡◌, ℕ}
use Rattle.std.proofs.Common.{inl, inr, arith}
use Rattle.theorems.specs.View.{Listed, View}
use Rattle.theorems.specs.Reaching.{BasisBy, Raising, Reaching}

-- a finished walk has listed the basis
pub all_listed : {r : Raising} {v : View} → Reaching r v → v.height ≡ 0 → (t : ℕ → ℕ) → BasisBy r t → Listed r.q v t
all_listed inv e t b = elim (inv.cover t b) [ inl at ↦ at | inr at ↦ absurd (omega (arith, at.1)) ]
