-- `finish_plain` meets its contract. Assumes nothing.
use Rattle.engine_ends.specs.Closing.{plain_done, plain_full, plain_room}
use Rattle.engine_ends.proofs.finish_plain.Goals as goal

pub count_zeros-count-requires : goal.count_zeros-count-requires
count_zeros-count-requires c = c.requires.0.valued.long

pub returns-then-most-count : goal.returns-then-most-count
returns-then-most-count c = rw c.refused.ensures
    (plain_full c.requires.0 c.requires.1 c.count_zeros-count.ensures c.if-most-count.true)

pub keep_zeros-requires : goal.keep_zeros-requires
keep_zeros-requires c = (
  c.requires.0.whole,
  c.requires.0.valued.long,
  plain_room c.requires.0 c.requires.1
      c.count_zeros-count.ensures c.if-most-count.false,
)

pub rests-requires : goal.rests-requires
rests-requires c = c.requires.0.ends

pub returns : goal.returns
returns c = plain_done c.requires.0 c.requires.1
    c.count_zeros-count.ensures c.if-most-count.false
    c.keep_zeros.ensures.0 c.rests.ensures
