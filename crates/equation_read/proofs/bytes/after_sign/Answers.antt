-- `equation_read::bytes::after_sign` meets its contract. Assumes nothing.
use Rattle.std.proofs.Common.{sym, ◌∙◌, arith}
use Rattle.equation_read.specs.ByteLaws.{sign_inside, sign_rest, lead_none}
use Rattle.equation_read.proofs.bytes.after_sign.Goals as goal

pub overflow_add-at : goal.overflow_add-at
overflow_add-at c = omega (arith, sign_inside c.args.text.now c.args.at (sym c.is_sign.ensures ∙ c.if-is_sign.true))

pub returns-then-is_sign : goal.returns-then-is_sign
returns-then-is_sign c = c.skip.ensures ∙ sign_rest c.args.text.now c.args.at (sym c.is_sign.ensures ∙ c.if-is_sign.true)

pub returns-else-is_sign : goal.returns-else-is_sign
returns-else-is_sign c = sym (lead_none _ (sym c.is_sign.ensures ∙ c.if-is_sign.false))
