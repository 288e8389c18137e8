-- `list_file::write::blocks::write_block` meets its contract: the last word makes the sum zero. Assumes nothing.
use Rattle.std.proofs.Common.{◌≡◌, ◌+◌, ◌*◌, ◌<◌, arith}
use Rattle.list_spec.specs.Form.{ListFile}
use Rattle.list_spec.specs.Words.{word_limit}
use Rattle.list_file.specs.WriteAnswer.{list_of}
use Rattle.list_file.specs.BlockLaws.{begun_next, last_place}
use Rattle.list_file.proofs.write.blocks.write_block.Goals as goal
use Rattle.list_file.proofs.write.blocks.write_block.Goals.{Start}

abbrev list : Start → ListFile
list s = list_of s.args.p s.args.q s.args.coefs.now s.args.rows.now s.args.ending

pub returns : goal.returns
returns c =
    let b = c.args.b in
    let e : 128 * (b + 1) ≡ 128 * b + 127 + 1 = omega arith in
    let out = c.write_words.new.out in
    let w = c.wrapping_sub_u32.result in
    let small : w < word_limit = omega (arith, c.wrapping_sub_u32.type_inv) in
    let last = last_place (list (goal.at.returns c).Start) c.requires.writable.list b c.requires.inside out c.wrapping_sum-sum.result w c.write_words.ensures
    c.wrapping_sum-sum.ensures small c.wrapping_sub_u32.ensures.value in
    rw e (begun_next (list (goal.at.returns c).Start) (128 * b + 127) w out c.put_word.new.bytes c.write_words.ensures c.put_word.ensures last)
