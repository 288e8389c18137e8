-- `words::read` meets its contract. Assumes nothing.
use Rattle.c_record.specs.WordLaws.{record_fitting, record_misfit}
use Rattle.c_record.proofs.words.read.Goals as goal

pub returns-then-words-eq7 : goal.returns-then-words-eq7
returns-then-words-eq7 c =
    rw (
      c.of.ensures,
      c.height_at.ensures,
      c.kind_at.ensures,
    )
    (record_fitting _ c.if-words-eq7.true)

pub returns : goal.returns
returns c = rw c.new.ensures (record_misfit _ c.if-words-eq7.false)
