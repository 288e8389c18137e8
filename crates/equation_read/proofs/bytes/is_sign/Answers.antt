-- `equation_read::bytes::is_sign` meets its contract. Assumes nothing.
use Rattle.std.proofs.Common.{sym, ◌∙◌}
use Rattle.equation_read.specs.ByteLaws.{sign_plus, sign_minus}
use Rattle.equation_read.proofs.bytes.is_sign.Goals as goal

pub returns-then-stands : goal.returns-then-stands
returns-then-stands c = c.if-stands.true ∙ sign_plus _ (sym c.stands.ensures ∙ c.if-stands.true)

pub returns-else-stands : goal.returns-else-stands
returns-else-stands c = c.stands-else-stands.ensures ∙ sign_minus _ (sym c.stands.ensures ∙ c.if-stands.false)
