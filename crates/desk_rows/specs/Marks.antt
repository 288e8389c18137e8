-- Marks of up to 64 generators as the machine has them. Assumes nothing.
use Rattle.std.specs.Prelude.{◌≡◌, true, ℕ, ◌^◌, ◌≤◌, ◌<◌, ltb}
use Rattle.std.proofs.Common.{sym, inl, inr, arith, lit<, lt-ltb}
use Rattle.std.proofs.Math.Nat.{pow-le-pow_right}
use Rattle.linear.proofs.Cases.{split}
use Rattle.linear.specs.Tests.{count_to}
use Rattle.definitions.specs.Tables.{frozen}
use Rattle.laws.proofs.MarkLaws.{count_frozen_fit}

-- 64 bits are within 64 generators or more
pub fit_all : (marks n : ℕ) → marks < 2 ^ 64 → 64 ≤ n → true ≡ ltb marks (2 ^ n)
fit_all marks n h l = sym (lt-ltb marks (2 ^ n) (omega (arith, pow-le-pow_right {n = 2} (lit< tt) {i = 64} {j = n} l)))

-- marks of the first n generators, counted over 64 places
pub count_fit : (marks n : ℕ) → marks < 2 ^ 64 → marks < 2 ^ n → count_to n (frozen marks) ≡ count_to 64 (frozen marks)
count_fit marks n h f =
    elim (split n 64) [
      | inl l ↦ sym (count_frozen_fit marks n 64 (omega arith) f)
      | inr l ↦ count_frozen_fit marks 64 n l h
    ]
