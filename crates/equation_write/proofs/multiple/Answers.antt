-- `equation_write::multiple` meets its contract. Assumes nothing.
use Rattle.texts.proofs.PutTheorems.{put_then}
use Rattle.equation_write.specs.TextLaws.{multiple_one, multiple_many}
use Rattle.equation_write.proofs.multiple.Goals as goal

pub returns-then-m-eq1 : goal.returns-then-m-eq1
returns-then-m-eq1 c = rw (multiple_one _ _ c.if-m-eq1.true) (put_then c.byte-next.ensures c.number.ensures)

pub returns : goal.returns
returns c = rw (multiple_many _ _ c.requires.0 c.if-m-eq1.false) (put_then c.number-star.ensures (put_then c.word-letter.ensures c.number-2.ensures))
