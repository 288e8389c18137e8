-- `take` meets its contract: what the call by value answered and left is told on. Assumes nothing.
use Rattle.c_engine.specs.CodeLaws.{take_fits}
use Rattle.c_engine.specs.WordLaws.{answer_fits, call_told}
use Rattle.c_engine.specs.Words.{take_words}
use Rattle.c_engine.proofs.take.Goals as goal

pub tell-requires : goal.tell-requires
tell-requires c =
    answer_fits c.take-o.result c.take-o.ensures (take_fits _ _ _ _ _ _ _)

pub returns : goal.returns
unfolding take_words
returns c =
    let e = rw (c.read-record.ensures, c.lengths-l.ensures) at c.take-o.ensures in
    call_told _ c.take-o.result e c.tell.ensures.value c.tell.ensures.run_after
