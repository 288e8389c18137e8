-- `list_file::write::blocks::write_content` meets its contract. The words passed stand in the buffer. Assumes nothing.
use Rattle.std.proofs.Common.{◌≡◌, ◌+◌, ◌*◌, refl, ◌∙◌, le_antisymm, arith}
use Rattle.list_spec.specs.Form.{ListFile}
use Rattle.list_file.specs.WriteAnswer.{list_of}
use Rattle.list_file.specs.BlockLaws.{begun_next, content_place, blocks_few}
use Rattle.list_file.proofs.write.blocks.write_content.Goals as goal
use Rattle.list_file.proofs.write.blocks.write_content.Goals.{Start}

abbrev list : Start → ListFile
list s = list_of s.args.p s.args.q s.args.coefs.now s.args.rows.now s.args.ending

pub loop-j-init : goal.loop-j-init
loop-j-init c = let e : 128 * c.args.b + 0 ≡ 128 * c.args.b = omega arith in record { same = refl; begun = rw e c.requires.begun }

pub word-w-requires : goal.word-w-requires
word-w-requires c =
    record { list = c.requires.writable.list; block = omega (arith, c.requires.inside, blocks_few c.requires.writable.list); place = c.loop-j-test.true }

pub overflow_mul-b : goal.overflow_mul-b
overflow_mul-b c = omega (arith, c.requires.inside, blocks_few c.requires.writable.list)

pub overflow_add-b : goal.overflow_add-b
overflow_add-b c = omega (arith, c.requires.inside, blocks_few c.requires.writable.list)

pub loop-j-preserved : goal.loop-j-preserved
loop-j-preserved c =
    let b = c.args.b in
    let j = c.loop-j.j in
    let e : 128 * b + (j + 1) ≡ 128 * b + j + 1 = omega arith in
    let f = c.word-w.ensures ∙ content_place (list (goal.at.loop-j-preserved c).Start) b j c.loop-j-test.true in record {
      same = c.put_word.auto.bytes ∙ c.loop-j.invariant.same;
      begun = rw e (begun_next (list (goal.at.loop-j-preserved c).Start) (128 * b + j) _ c.loop-j.out _ c.loop-j.invariant.begun c.put_word.ensures f);
    }

pub returns : goal.returns
returns c = let l = c.loop-j in rw (← le_antisymm l.auto.j-end c.loop-j-test.false) l.invariant.begun
