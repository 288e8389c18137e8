-- `list_file::write::content::stream_word` meets its contract: a coefficient, a component or filler. Assumes nothing.
use Rattle.std.proofs.Common.{◌≡◌, ◌+◌, ◌-◌, length, get_or, pos, sym, ◌∙◌, arith, rules, to_z-of_z, w32}
use Rattle.list_spec.specs.Form.{ListFile}
use Rattle.list_spec.proofs.ContentLaws.{stream_coef, stream_row, stream_filler}
use Rattle.list_file.specs.WriteAnswer.{list_of}
use Rattle.list_file.proofs.write.content.stream_word.Goals as goal
use Rattle.list_file.proofs.write.content.stream_word.Goals.{Start}

abbrev list : Start → ListFile
list s = list_of 0 0 s.args.coefs.now s.args.rows.now 0

pub returns-then-i-coefs : goal.returns-then-i-coefs
returns-then-i-coefs c =
    (rw (to_z-of_z {w = w32} {z = get_or c.args.coefs.now c.args.i (pos 0)} (search rules)) at c.to_word.ensures)
    ∙ sym (stream_coef (list (goal.at.returns-then-i-coefs c).Start) c.args.i (omega arith))

pub returns-then-k-rows : goal.returns-then-k-rows
returns-then-k-rows c =
    let n = length c.args.coefs.now in
    let e : n + (c.args.i - n) ≡ c.args.i = omega arith in
    sym (rw e at (stream_row (list (goal.at.returns-then-k-rows c).Start) (c.args.i - n)))

pub returns : goal.returns
returns c = sym (stream_filler (list (goal.at.returns c).Start) c.args.i (omega arith))
