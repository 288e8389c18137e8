-- `equation_read::bytes::is_minus` meets its contract. Assumes nothing.
use Rattle.std.proofs.Common.{◌∙◌}
use Rattle.equation_read.specs.ByteLaws.{minus_lead}
use Rattle.equation_read.proofs.bytes.is_minus.Goals as goal

pub returns : goal.returns
returns c = c.stands.ensures ∙ minus_lead _
