-- `marks::write_marks` meets its contract. Assumes nothing.
use Rattle.std.proofs.Common.{rules}
use Rattle.engine_rows.specs.Marking.{marks_all}
use Rattle.engine_rows.proofs.marks.write_marks.Goals as goal

pub returns : goal.returns
returns c = marks_all c.write_first.ensures c.requires.3 (λ i l. search (rules, c.write_first.ensures.each 0 i l))
