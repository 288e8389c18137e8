-- What a run starts from: the equations before its own, of which only the list of minimal solutions is handed over, and the cap that its rows stay inside. A
-- plain start has none of both. Assumes nothing.
use Rattle.std.specs.Prelude.{cond, ℕ, ◌-◌, ℤ, pos}
use Rattle.std.proofs.Math.Dec.{ltb}

-- the number of equations before, and their system; the cap, 0 where there is none
pub record Base : Type 0 where
  pub p : ℕ
  pub a : ℕ → ℕ → ℤ
  pub cap : ℕ

-- no equations before, with a cap and without
abbrev pub under : ℕ → Base
under cap = record { p = 0; a = λ i j. pos 0; cap = cap }

abbrev pub nothing : Base
nothing = under 0

-- the equations before, and those of a behind them
unfoldable pub on_top : Base → (ℕ → ℕ → ℤ) → ℕ → ℕ → ℤ
on_top b a i j = cond (ltb i b.p) (b.a i j) (a (i - b.p) j)
