-- `dezgula_raw_engine_combine` meets its contract: the two factors are handed on as they are. Assumes nothing.
use mir.Facts.{to_z-of_z}
use Rattle.dezgula.proofs.stages.dezgula_raw_engine_combine.Goals as goal

pub returns : goal.returns
returns c =
    rw (to_z-of_z c.ranges.u, to_z-of_z c.ranges.t) at c.combine.ensures
