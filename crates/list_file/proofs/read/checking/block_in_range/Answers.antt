-- `list_file::read::checking::block_in_range` meets its contract: a block of components is tested at once. Assumes nothing.
use Rattle.std.proofs.Common.{◌∙◌, arith}
use Rattle.list_file.specs.ReadLaws.{components_decide}
use Rattle.list_file.proofs.read.checking.block_in_range.Goals as goal

pub returns : goal.returns
returns c = c.all_within.ensures ∙ components_decide _ _ _ _ (omega arith) (omega arith)
