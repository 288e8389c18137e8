-- `texts::number::read_number` meets its contract: the first byte tells whether there is a minus. Assumes nothing.
use Rattle.std.proofs.Common.{◌<◌, ◌∙◌, sym}
use Rattle.texts.specs.Reading.{unsigned}
use Rattle.texts.proofs.ParseLaws.{then_malformed, then_parsed}
use Rattle.texts.proofs.NumberLaws.{natural_small, number_end, number_minus, number_digits}
use Rattle.texts.proofs.SignLaws.{fits_word, word_value}
use Rattle.texts.proofs.number.read_number.Goals as goal
use Rattle.texts.proofs.number.read_number.Goals.{In_ok-size}

small : (c : In_ok-size) → c.in_ok-size.size.value < 1000000000
small c = natural_small _ c.requires (sym c.in_ok-size.ensures)

pub returns-then-text-at : goal.returns-then-text-at
returns-then-text-at c = number_end _ _ _ c.if-text-at.true

pub returns-then-text-at-eq45 : goal.returns-then-text-at-eq45
returns-then-text-at-eq45 c = c.read_negative.ensures ∙ number_minus _ _ _ c.if-text-at.false c.if-text-at-eq45.true

pub overflow_cast-result : goal.overflow_cast-result
overflow_cast-result c = fits_word _ (small (goal.at.overflow_cast-result c).In_ok-size)

pub returns-in_err-size : goal.returns-in_err-size
returns-in_err-size c =
    rw c.from_residual.ensures (then_malformed unsigned c.in_err-size.ensures ∙ number_digits _ _ _ c.if-text-at.false c.if-text-at-eq45.false)

pub returns : goal.returns
returns c =
    rw (word_value _ (small (goal.at.returns c).In_ok-size))
    (then_parsed unsigned c.in_ok-size.ensures ∙ number_digits _ _ _ c.if-text-at.false c.if-text-at-eq45.false)
