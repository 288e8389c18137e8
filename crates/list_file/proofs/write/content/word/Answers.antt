-- `list_file::write::content::word` meets its contract: the block's number, or what it carries. Assumes nothing.
use Rattle.std.proofs.Common.{◌∙◌}
use Rattle.list_spec.specs.Form.{ListFile}
use Rattle.list_file.specs.WriteAnswer.{list_of}
use Rattle.list_file.specs.BlockLaws.{content_header, content_carried}
use Rattle.list_file.proofs.write.content.word.Goals as goal
use Rattle.list_file.proofs.write.content.word.Goals.{Start}

abbrev list : Start → ListFile
list s = list_of s.args.p s.args.q s.args.coefs.now s.args.rows.now s.args.ending

pub returns-then-b-eq0 : goal.returns-then-b-eq0
returns-then-b-eq0 c =
    c.header_word.ensures ∙ content_header (list (goal.at.returns-then-b-eq0 c).Start) c.args.b c.args.j c.if-j-eq0.false c.if-b-eq0.true

pub returns : goal.returns
returns c =
    c.stream_word.ensures ∙ content_carried (list (goal.at.returns c).Start) c.args.b c.args.j c.if-j-eq0.false c.if-b-eq0.false
