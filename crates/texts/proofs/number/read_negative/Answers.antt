-- `texts::number::read_negative` meets its contract: a number of nine digits can be negated, and is negative unless it is 0. Assumes nothing.
use Rattle.std.proofs.Common.{◌<◌, ◌∙◌, sym, to_z-of_z}
use Rattle.texts.specs.Reading.{negative}
use Rattle.texts.proofs.NumberLaws.{natural_small}
use Rattle.texts.proofs.ParseLaws.{then_malformed, then_parsed}
use Rattle.texts.proofs.SignLaws.{fits_word, word_value, fits_negated, negated}
use Rattle.texts.proofs.number.read_negative.Goals as goal
use Rattle.texts.proofs.number.read_negative.Goals.{In_ok-size}

small : (c : In_ok-size) → c.in_ok-size.size.value < 1000000000
small c = natural_small _ c.requires (sym c.in_ok-size.ensures)

pub overflow_cast-result : goal.overflow_cast-result
overflow_cast-result c = fits_word _ (small (goal.at.overflow_cast-result c).In_ok-size)

pub overflow_sub-result : goal.overflow_sub-result
overflow_sub-result c = let l = small (goal.at.overflow_sub-result c).In_ok-size in rw (word_value _ l) (fits_negated _ l)

pub returns-in_err-size : goal.returns-in_err-size
returns-in_err-size c = rw c.from_residual.ensures (then_malformed negative c.in_err-size.ensures)

pub returns-then-size-eq0 : goal.returns-then-size-eq0
returns-then-size-eq0 c = rw c.if-size-eq0.true at (then_parsed negative c.in_ok-size.ensures)

pub returns : goal.returns
returns c =
    let l = small (goal.at.returns c).In_ok-size in
    rw (word_value _ l, to_z-of_z (fits_negated _ l)) (negated _ _ c.if-size-eq0.false ∙ then_parsed negative c.in_ok-size.ensures)
