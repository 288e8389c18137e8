-- `words::height_at` meets its contract. Assumes nothing.
use Rattle.c_record.specs.WordLaws.{height_low, height_none}
use Rattle.c_record.proofs.words.height_at.Goals as goal

pub returns-then-kind-lt5 : goal.returns-then-kind-lt5
returns-then-kind-lt5 c = height_low _ _ c.if-kind-lt5.true

pub returns : goal.returns
returns c = height_none _ _ c.if-kind-lt5.false
