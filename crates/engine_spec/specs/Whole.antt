-- What holds of a run between two calls, whichever equations, operations and unknowns its caller chose, and that each call keeps it. Assumes nothing.
use Rattle.std.specs.Prelude.{◌≡◌, T, ℤ, negsuc, nat_abs, get_or, length}
use Prim.Native.Nat.{ℕ, suc, ◌+◌, ◌*◌, ◌^◌, ◌≤◌, ◌<◌}
use Rattle.std.proofs.Math.IntN.{pos}
use Rattle.definitions.specs.Refusals.{step_limit}
use Rattle.definitions.specs.Tables.{frozen}
use Rattle.engine_spec.specs.Base.{Base, on_top}
use Rattle.engine_spec.specs.Beside.{coefficient_limit}
use Rattle.engine_spec.specs.Done.{among}
use Rattle.engine_spec.specs.Engine.{Work, basis_row, equation_of, system}
use Rattle.engine_spec.specs.Fresh.{without_at}
use Rattle.engine_spec.specs.Operations.{Alike}
use Rattle.engine_spec.specs.Sound.{Given, Sound}

-- the equations done, as a system
abbrev pub done_of : ℕ → Work → ℕ → ℕ → ℤ
done_of q w = among w.done (system q w)

-- the equations so far: those before the run's own, and those done
abbrev pub so_far : Base → ℕ → Work → ℕ → ℕ → ℤ
so_far b q w = on_top b (done_of q w)

-- Where a run stands: between two stages; in a stage without a fresh unknown; in one with a fresh unknown, whose basis lacks it.
pub data Standing (b : Base) (p q : ℕ) (w : Work) : Type 0 where
  between : w.equation ≡ p → w.stage.rows ≡ 0 → Given b.cap (b.p + p) q (so_far b q w) w.count (basis_row q w) → Standing b p q w
  under_way : w.equation < p → ¬ (T (frozen w.done w.equation)) → q ≤ w.fresh → Given b.cap (b.p + p) q (so_far b q w) w.count (basis_row q w)
      → Sound b.cap (b.p + p) q (so_far b q w) (equation_of q w) w.count (basis_row q w) w.stage → Standing b p q w
  with_fresh : w.equation < p → ¬ (T (frozen w.done w.equation)) → w.fresh < q → (0 < b.cap → 0 < w.fresh)
      → equation_of q w w.fresh ≡ negsuc 0 → ((i : ℕ) → i < b.p + p → so_far b q w i w.fresh ≡ pos 0)
      → Given b.cap (suc (b.p + p)) q (without_at (b.p + p) (so_far b q w) w.fresh) w.count (basis_row q w)
      → Sound b.cap (suc (b.p + p)) q (without_at (b.p + p) (so_far b q w) w.fresh) (equation_of q w) w.count (basis_row q w) w.stage
      → Standing b p q w

-- What holds between two calls of a run on the system a, from the equations before it, with room for `most` rows in the basis and `room` rows in the
-- stage's table.
pub record Whole (b : Base) (p q : ℕ) (a : ℕ → ℕ → ℤ) (most room : ℕ) (w : Work) : Type 0 where
  pub numbers : p * q ≤ length w.equations
  pub long : most * q ≤ length w.basis
  pub wide : room * q ≤ length w.stage.table
  pub few : w.count ≤ most
  pub fits : w.stage.rows ≤ room
  pub marks : w.done < 2 ^ p
  pub early : w.stage.steps ≤ step_limit
  pub capped : w.stage.cap ≡ b.cap
  -- no coefficient of the working system is out of its range
  pub range : (k : ℕ) → k < p * q → nat_abs (get_or w.equations k (pos 0)) ≤ coefficient_limit
  pub alike : Alike p q a (system q w)
  pub standing : Standing b p q w
