-- It meets its contract: the first n entries are those of the rows. Assumes nothing.
use Rattle.std.proofs.Common.{rules, arith}
use Rattle.engine_beside.proofs.words.write_words.Goals as goal

pub returns : goal.returns
returns c = (
  record { long = omega (arith, c.write_first.ensures.long); each = λ i l. search (rules, c.write_first.ensures.each 0 i l) },
  record { long = c.write_first.ensures.long; rest = c.write_first.ensures.rest 0 },
)
