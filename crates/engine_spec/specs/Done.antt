-- The equations done, as marks: bit i says that equation i is. Their system has 0 = 0 in the place of each other equation. Assumes nothing.
use Rattle.std.specs.Prelude.{cond, ℕ, ℤ, pos}
use Rattle.definitions.specs.Tables.{frozen}

abbrev pub among : ℕ → (ℕ → ℕ → ℤ) → ℕ → ℕ → ℤ
among done a i j = cond (frozen done i) (a i j) (pos 0)
