-- `combine` meets its contract: what the call by value answered and left is told on. Assumes nothing.
use mir.Facts.{to_z-of_z}
use Rattle.c_engine.specs.CodeLaws.{combine_fits}
use Rattle.c_engine.specs.WordLaws.{answer_fits, call_told}
use Rattle.c_engine.specs.Words.{combine_words}
use Rattle.c_engine.proofs.combine.Goals as goal

pub tell-requires : goal.tell-requires
tell-requires c =
    answer_fits c.combine-o.result c.combine-o.ensures (combine_fits _ _ _ _ _ _ _ _ _)

pub returns : goal.returns
unfolding combine_words
returns c =
    let e = rw (c.read-record.ensures, c.lengths-l.ensures, to_z-of_z c.ranges.u, to_z-of_z c.ranges.t) at c.combine-o.ensures in
    call_told _ c.combine-o.result e c.tell.ensures.value c.tell.ensures.run_after
