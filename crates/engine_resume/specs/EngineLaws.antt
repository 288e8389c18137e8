-- The turns of a run by those of its stage: what the stage answers decides, and where it has ended the run finishes it. Assumes nothing.
use Prim.Native.Nat.{ℕ}
use Rattle.definitions.specs.Answers.{Answer, complete, paused, refused, started}
use Rattle.engine_spec.specs.Engine.{Result, Work, basis_row, equation_of, finish, result}
use Rattle.engine_spec.specs.Stage as stage
use Rattle.engine_spec.specs.Stage.{Outcome}

-- what a run whose stage gave this answer comes to
unfoldable pub ended : (p q most : ℕ) → Answer → Work → Result
ended p q most complete w = finish p q most w
ended p q most started w = result started w
ended p q most paused w = result paused w
ended p q most (refused n values) w = result (refused n values) w

-- the run of its stage
abbrev pub stage_run : (q room budget : ℕ) → Work → Outcome
stage_run q room budget w = stage.run q (equation_of q w) w.count (basis_row q w) room budget w.stage
