-- `resuming::advance` meets its contract: with the tables beside the rows written, the turns may begin. Assumes nothing.
use mathlib.Core.Path.{◌∙◌}
use native.Mathlib.Omega.{arith}
use Rattle.laws.proofs.TableLaws.{row_fits}
use Rattle.engine_resume.proofs.ResumingTheorems.{advanced, entered_ready, writable}
use Rattle.engine_resume.proofs.resuming.advance.Goals as goal

pub overflow_mul-from : goal.overflow_mul-from
overflow_mul-from c = omega
    (arith, c.requires.whole, row_fits c.args.q c.args.r.equation c.args.p c.requires.going)

pub write_beside-requires : goal.write_beside-requires
write_beside-requires c = writable c.requires

pub run-requires : goal.run-requires
run-requires c = rw c.begin-s.ensures
    (entered_ready c.requires
    c.write_beside.ensures)

pub shape_of-sizes : goal.shape_of-sizes
shape_of-sizes c = c.write_beside.ensures.kept.long

pub shape_of-values : goal.shape_of-values
shape_of-values c = c.run.ensures.beyond.values.long ∙ c.write_beside.ensures.values.long

pub shape_of-words : goal.shape_of-words
shape_of-words c = c.run.ensures.beyond.words.long ∙ c.write_beside.ensures.words.long

pub shape_of-degrees : goal.shape_of-degrees
shape_of-degrees c = c.run.ensures.beyond.degrees.long ∙ c.write_beside.ensures.degrees.long

pub shape_of-marks : goal.shape_of-marks
shape_of-marks c = c.run.ensures.beyond.marks.long ∙ c.write_beside.ensures.marks.long

pub returns : goal.returns
returns c = advanced c.requires
    c.write_beside.ensures
    (rw c.begin-s.ensures at c.run.ensures)
