-- `texts::number::read_natural` meets its contract: the first byte is a digit, and then come the others. Assumes nothing.
use Rattle.std.proofs.Common.{◌∙◌}
use Rattle.texts.proofs.NumberLaws.{room_first, digit_range, natural_stop, natural_first}
use Rattle.texts.proofs.number.read_natural.Goals as goal

pub returns-in_err-first : goal.returns-in_err-first
returns-in_err-first c = rw c.from_residual.ensures (natural_stop _ _ _ c.in_err-first.ensures)

pub more_digits-requires : goal.more_digits-requires
more_digits-requires c =
    let f = c.requires in
    let (l, e, d) = c.in_ok-first.ensures in
    (f, rw (c.may_follow.ensures, d) (room_first _ _ f (digit_range _ e).1))

pub returns : goal.returns
returns c =
    let (l, e, d) = c.in_ok-first.ensures in
    rw (c.may_follow.ensures, d) at c.more_digits.ensures ∙ natural_first _ _ _ l e
