-- `ending` meets its contract. Assumes nothing.
use Rattle.report_spec.specs.Printed as paper
use Rattle.texts.proofs.PutTheorems.{put_none}
use Rattle.report.proofs.ending.Goals as goal

pub returns-in-Started : goal.returns-in-Started
unfolding paper.ending
returns-in-Started c = rw c.in-Started.is (put_none _ _)

pub returns-in-Complete : goal.returns-in-Complete
unfolding paper.ending
returns-in-Complete c = rw c.in-Complete.is c.word.ensures

pub returns-in-Paused : goal.returns-in-Paused
unfolding paper.ending
returns-in-Paused c = rw c.in-Paused.is c.word-in-Paused.ensures

pub returns-in-Refused : goal.returns-in-Refused
unfolding paper.ending
returns-in-Refused c =
    rw c.in-Refused.is (rw c.number_of.ensures at c.counted.ensures.put)
