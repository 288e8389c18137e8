-- `small::in_range` meets its contract: what refuses no coefficient finds none out of range. Assumes nothing.
use Rattle.std.proofs.Common.{◌∙◌}
use Rattle.reformulation.specs.Limits.{range_by}
use Rattle.reformulation.proofs.small.in_range.Goals as goal

pub returns : goal.returns
returns c = c.is_ok.ensures.value ∙ range_by c.args.table.now _ c.check.ensures
