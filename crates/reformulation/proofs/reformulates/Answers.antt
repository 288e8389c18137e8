-- `reformulates` meets its contract: a refusal, or what the numbers show. Assumes nothing.
use mathlib.Core.Path.{sym, ◌∙◌}
use Rattle.calls.proofs.CallLaws.{passes}
use Rattle.reformulation.specs.Given.{given_of}
use Rattle.reformulation.specs.Shows.{told_not, told_refused, told_shown}
use Rattle.reformulation.proofs.reformulates.Goals as goal

pub shows-requires : goal.shows-requires
shows-requires c = given_of _ (passes c.check.ensures c.in-Ok.is)

pub returns-then-shows : goal.returns-then-shows
returns-then-shows c = told_shown _ c.check.ensures c.in-Ok.is (sym c.shows.ensures ∙ c.if-shows.true)

pub returns-in-Err : goal.returns-in-Err
returns-in-Err c = c.refusal.ensures ∙ told_refused _ c.check.ensures c.in-Err.is

pub returns-else-shows : goal.returns-else-shows
returns-else-shows c = told_not _ c.check.ensures c.in-Ok.is (sym c.shows.ensures ∙ c.if-shows.false)
