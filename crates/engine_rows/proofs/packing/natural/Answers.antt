-- `packing::natural` meets its contract. Assumes nothing.
use mir.Facts.{to_z-of_z}
use Rattle.engine_rows.specs.Keeping.{natural_fits, natural_is}
use Rattle.engine_rows.proofs.packing.natural.Goals as goal

pub overflow_cast-result : goal.overflow_cast-result
overflow_cast-result c = rw (to_z-of_z c.ranges.x) (natural_fits c.args.x c.requires.0 c.requires.1)

pub returns : goal.returns
returns c = rw (to_z-of_z c.ranges.x) (natural_is c.args.x c.requires.0)
