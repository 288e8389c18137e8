-- `shows` meets its contract: each test is made where those before it have passed. Assumes nothing.
use Rattle.std.proofs.Common.{rules}
use borrow.Author.Tests.{tests}
use Rattle.reformulation_spec.specs.Reformulation as paper
use Rattle.reformulation.specs.Shows.{above_lines, back_lines, onto_lines}
use Rattle.reformulation.proofs.shows.Goals as goal

pub all_follow-requires : goal.all_follow-requires
all_follow-requires c = onto_lines _ c.requires (search (rules, tests))

pub all_follow-requires-then-all_follow : goal.all_follow-requires-then-all_follow
all_follow-requires-then-all_follow c = back_lines _ c.requires (search (rules, tests))

pub all_follow-requires-then-all_follow-2 : goal.all_follow-requires-then-all_follow-2
all_follow-requires-then-all_follow-2 c = above_lines _ c.requires (search (rules, tests))

pub returns-then-all_follow-2 : goal.returns-then-all_follow-2
unfolding paper.shows
returns-then-all_follow-2 c = search (rules, tests)

pub returns-else-all_follow-2 : goal.returns-else-all_follow-2
unfolding paper.shows
returns-else-all_follow-2 c = search (rules, tests)
