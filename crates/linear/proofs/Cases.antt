-- Theorems about what specs/Cases.antt defines. Assumes nothing.
use Rattle.std.specs.Prelude.{◌≡◌, ◌⊎◌, ℕ, ◌≤◌, ◌<◌}
use Rattle.std.proofs.Common.{inl, inr, arith}
use Rattle.std.proofs.Math.Decide.{dec_lt, ℕ_discrete}

pub split : (k n : ℕ) → (k < n) ⊎ (n ≤ k)
split k n = elim (dec_lt k n) [ yes h ↦ inl h | no h ↦ inr (omega arith) ]

pub order : (k n : ℕ) → (k < n) ⊎ ((k ≡ n) ⊎ (n < k))
order k n =
    elim (dec_lt k n) [ yes h ↦ inl h | no h ↦ inr (elim (ℕ_discrete k n) [ yes e ↦ inl e | no e ↦ inr (omega arith) ]) ]
