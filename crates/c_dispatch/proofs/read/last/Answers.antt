-- `c_dispatch::read::last` meets its contract. Assumes nothing.
use Rattle.c_dispatch.proofs.WordLaws.{last_round, last_other}
use Rattle.c_dispatch.proofs.read.last.Goals as goal

pub returns-then-words-eq74 : goal.returns-then-words-eq74
returns-then-words-eq74 c = last_round _ c.if-words-eq74.true

pub returns : goal.returns
returns c = last_other _ c.if-words-eq74.false
