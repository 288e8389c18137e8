-- `images::write` meets its contract. The sums passed have been written. Assumes nothing.
use Rattle.desk_rows.specs.Images.{map_equation}
use Rattle.desk_rows.proofs.images.write.Goals as goal

pub value_at-requires : goal.value_at-requires
value_at-requires c = (map_equation c.requires.0 c.loop-i.i c.loop-i-test.true, c.requires.1)
