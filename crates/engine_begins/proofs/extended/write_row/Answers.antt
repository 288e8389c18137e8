-- `extended::write_row` meets its contract: the first number, and the others behind it. Assumes nothing.
use Rattle.std.proofs.Common.{add-one}
use mir.Facts.{to_z-of_z}
use Rattle.engine_begins.specs.Extended.{fill_first}
use Rattle.engine_begins.proofs.extended.write_row.Goals as goal

pub returns : goal.returns
returns c =
    let s = c.args in
    rw (to_z-of_z c.ranges.first, fill_first s.q s.equations.now s.base s.first s.coefs.now s.from, ← add-one s.q) at c.copy.ensures
