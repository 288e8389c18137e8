-- `c_dispatch::write::record` meets its contract. Assumes nothing.
use Rattle.c_dispatch.proofs.WordLaws.{record_left, record_written}
use Rattle.c_dispatch.proofs.write.record.Goals as goal

pub returns-then-words-at-lt5 : goal.returns-then-words-at-lt5
returns-then-words-at-lt5 c =
    rw (c.others.ensures, c.counts.ensures) (record_written _ _ _ c.if-words-at-lt5.true)

pub returns-else-words-at-lt5 : goal.returns-else-words-at-lt5
returns-else-words-at-lt5 c = record_left _ _ _ c.if-words-at-lt5.false
