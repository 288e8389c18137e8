-- Theorems about what specs/EngineLaws.antt defines. Assumes nothing.
use Rattle.std.specs.Prelude.{◌≡◌}
use Rattle.std.proofs.Math.Path.{refl}
use Prim.Native.Nat.{ℕ, zero, suc}
use Rattle.engine_spec.specs.Engine.{Result, Work, after, basis_row, equation_of, onward, run}
use Rattle.engine_spec.specs.Stage as stage
use Rattle.engine_spec.specs.Stage.{Outcome, Stage, Turned, ends, goes, stops, turn}
use Rattle.engine_resume.specs.EngineLaws.{ended, stage_run}

module _ (p q most : ℕ) where
  after_by : (t : Turned) (f : Work → Result) (g : Stage → Outcome) (w : Work)
      → ((s : Stage) → f (onward s w) ≡ ended p q most (g s).answer (onward (g s).stage w))
      → after p q most t f w ≡ ended p q most (stage.after t g w.stage).answer (onward (stage.after t g w.stage).stage w)
  unfolding after stage.after ended onward
  after_by (goes s) f g w h = h s
  after_by (stops n) f g w h = refl
  after_by ends f g w h = refl

  pub run_by_stage : (room budget : ℕ) (w : Work)
      → run p q most room budget w ≡ ended p q most (stage_run q room budget w).answer (onward (stage_run q room budget w).stage w)
  unfolding run stage.run ended onward
  run_by_stage room zero w = refl
  run_by_stage room (suc budget) w =
      after_by (turn q (equation_of q w) w.count (basis_row q w) room w.stage) (run p q most room budget)
      (stage.run q (equation_of q w) w.count (basis_row q w) room budget) w (λ s. run_by_stage room budget (onward s w))
