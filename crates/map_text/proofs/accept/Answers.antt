-- `map_text::accept` meets its contract: the first coefficient out of range is refused. Assumes nothing.
use Rattle.std.proofs.Common.{pos, rules}
use borrow.Author.Tests.{tests}
use Rattle.definitions.specs.Refusals.{out_of_range}
use Rattle.texts.proofs.FirstLaws.{first_in_slice, none_refused, first_refused}
use Rattle.map_text.proofs.AnswerLaws.{out_of_range as one_out_of_range, in_range}
use Rattle.map_text.proofs.accept.Goals as goal

pub returns-in-Some : goal.returns-in-Some
returns-in-Some c =
    one_out_of_range _ _ _ _
    (first_refused 7 _ _ (first_in_slice out_of_range (pos 0) c.in-Some.ensures.ran c.iter.ensures.rest (λ x b q k. search (rules, tests))))

pub returns : goal.returns
returns c =
    in_range _ _ _ _ (none_refused 7 _ _ (first_in_slice out_of_range (pos 0) c.in_default.ensures.ran c.iter.ensures.rest (λ x b q k. search (rules, tests))))
    c.copy.ensures
