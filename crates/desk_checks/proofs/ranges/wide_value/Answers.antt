-- `ranges::wide_value` meets its contract. Assumes nothing.
use Rattle.desk_rows.specs.Images.{desk_equation, desk_row}
use Rattle.desk_checks.proofs.ranges.wide_value.Goals as goal

pub value_at-requires : goal.value_at-requires
value_at-requires c = (desk_equation c.requires.0 c.args.i c.requires.2, desk_row c.requires.0 c.args.k c.requires.1)
