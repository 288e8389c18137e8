-- `dezgula::equations::dezgula_raw_write_equation` meets its contract: that of the call behind it. Assumes nothing.
use mir.Facts.{to_z-of_z}
use Rattle.dezgula.proofs.equations.dezgula_raw_write_equation.Goals as goal

pub returns : goal.returns
returns c = rw (to_z-of_z c.ranges.right) at c.write_equation.ensures
