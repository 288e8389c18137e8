-- `list_file::write::checking::list_in_range` meets its contract: each test decides. Assumes nothing.
use Rattle.std.proofs.Common.{[], ◌∙◌}
use Rattle.list_spec.specs.Form.{ListFile}
use Rattle.list_file.specs.WriteAnswer.{list_of}
use Rattle.list_file.specs.WriteCheckLaws.{not_whole, too_many, no_ending, rows_decide}
use Rattle.list_file.proofs.write.checking.list_in_range.Goals as goal
use Rattle.list_file.proofs.write.checking.list_in_range.Goals.{Start}

abbrev list : Start → ListFile
list s = list_of 0 s.args.q [] s.args.rows.now s.args.ending

pub returns-then-rows-q-ne0 : goal.returns-then-rows-q-ne0
returns-then-rows-q-ne0 c = not_whole (list (goal.at.returns-then-rows-q-ne0 c).Start) c.if-rows-q-ne0.true

pub returns-then-rows-q-gt4096 : goal.returns-then-rows-q-gt4096
returns-then-rows-q-gt4096 c = too_many (list (goal.at.returns-then-rows-q-gt4096 c).Start) c.if-rows-q-ne0.false c.if-rows-q-gt4096.true

pub returns-then-ending-gt1 : goal.returns-then-ending-gt1
returns-then-ending-gt1 c = no_ending (list (goal.at.returns-then-ending-gt1 c).Start) c.if-rows-q-ne0.false c.if-rows-q-gt4096.false c.if-ending-gt1.true

pub returns : goal.returns
returns c =
    c.rows_in_range.ensures
    ∙ rows_decide (list (goal.at.returns c).Start) c.if-rows-q-ne0.false
    c.if-rows-q-gt4096.false c.if-ending-gt1.false
