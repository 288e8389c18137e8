-- `reader::reader_answer` meets its contract. Assumes nothing.
use Rattle.definitions.specs.Answers.{refuse_with}
use Rattle.reader.proofs.reader_answer.Goals as goal

pub returns-then-in_range : goal.returns-then-in_range
unfolding refuse_with
returns-then-in_range c = rw (← c.in_range.ensures, c.if-in_range.true)

pub returns-else-in_range : goal.returns-else-in_range
unfolding refuse_with
returns-else-in_range c = rw (← c.in_range.ensures, c.if-in_range.false)
