-- `resuming::go_on` meets its contract: the turns, and then what their end asks for. Assumes nothing.
use Rattle.engine_resume.proofs.ResumingTheorems.{closing, resumed}
use Rattle.engine_resume.proofs.resuming.go_on.Goals as goal

pub advance-ran-requires : goal.advance-ran-requires
advance-ran-requires c = c.requires

pub close-requires : goal.close-requires
close-requires c = rw c.stand.ensures (closing c.requires c.advance-ran.ensures)

pub shape_of-sizes : goal.shape_of-sizes
shape_of-sizes c = c.advance-ran.ensures.kept.long

pub shape_of-table : goal.shape_of-table
shape_of-table c = c.advance-ran.auto.table

pub shape_of-values : goal.shape_of-values
shape_of-values c = c.advance-ran.auto.values

pub shape_of-words : goal.shape_of-words
shape_of-words c = c.advance-ran.auto.words

pub shape_of-degrees : goal.shape_of-degrees
shape_of-degrees c = c.advance-ran.auto.degrees

pub shape_of-marks : goal.shape_of-marks
shape_of-marks c = c.advance-ran.auto.marks

pub shape_of-mothers : goal.shape_of-mothers
shape_of-mothers c = c.advance-ran.auto.mothers

pub returns : goal.returns
returns c = resumed c.requires c.advance-ran.ensures (rw c.stand.ensures at c.close.ensures)
