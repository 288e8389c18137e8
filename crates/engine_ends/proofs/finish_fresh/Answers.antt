-- `finish_fresh` meets its contract. Assumes nothing.
use mathlib.Core.Path.{sym, ◌∙◌}
use borrow.Author.Tests.{not-false}
use Rattle.engine_ends.specs.Closing.{fresh_done, fresh_full, fresh_large, fresh_room}
use mathlib.Core.Path.{ap}
use mathlib.Core.Bool.{not}
use Rattle.engine_ends.proofs.finish_fresh.Goals as goal

pub most_value_small-requires : goal.most_value_small-requires
most_value_small-requires c = c.requires.0.valued.long

pub returns-then-not-most_value_small : goal.returns-then-not-most_value_small
returns-then-not-most_value_small c =
    rw c.refused.ensures (fresh_large c.requires.0 c.requires.1 (sym c.most_value_small.ensures ∙ c.if-not-most_value_small.true))

pub count_not_below-count-requires : goal.count_not_below-count-requires
count_not_below-count-requires c = c.requires.0.valued.long

pub returns-then-most-count : goal.returns-then-most-count
returns-then-most-count c = rw c.refused-then-most-count.ensures
    (fresh_full c.requires.0 c.requires.1 (sym c.most_value_small.ensures ∙ not-false _
    (ap not c.if-not-most_value_small.false)) c.count_not_below-count.ensures c.if-most-count.true)

pub keep_filled-requires : goal.keep_filled-requires
keep_filled-requires c = (
  c.requires.0.whole,
  c.requires.0.valued.long,
  (sym c.most_value_small.ensures ∙ not-false _
      (ap not c.if-not-most_value_small.false)),
  fresh_room c.requires.0 c.requires.1
      (sym c.most_value_small.ensures ∙ c.if-not-most_value_small.false)
      c.count_not_below-count.ensures c.if-most-count.false,
)

pub rests-requires : goal.rests-requires
rests-requires c = c.requires.0.ends

pub returns : goal.returns
returns c = fresh_done c.requires.0 c.requires.1 (sym c.most_value_small.ensures ∙ not-false _
    (ap not c.if-not-most_value_small.false)) c.count_not_below-count.ensures
    c.if-most-count.false c.keep_filled.ensures.0 c.rests.ensures
