-- `list_file::write::blocks::write_components` meets its contract. The words passed stand in the buffer. Assumes nothing.
use Rattle.std.proofs.Common.{◌≡◌, ◌+◌, ◌*◌, refl, ◌∙◌, arith}
use Rattle.list_spec.specs.Form.{ListFile}
use Rattle.list_file.specs.WriteAnswer.{list_of}
use Rattle.list_file.specs.BlockLaws.{begun_next, number_place, component_place}
use Rattle.list_file.proofs.write.blocks.write_components.Goals as goal
use Rattle.list_file.proofs.write.blocks.write_components.Goals.{Start}

abbrev list : Start → ListFile
list s = list_of s.args.p s.args.q s.args.coefs.now s.args.rows.now s.args.ending

pub loop-j-init : goal.loop-j-init
loop-j-init c =
    let b = c.args.b in
    let e : 128 * b + 1 + 0 ≡ 128 * b + 1 = omega arith in record {
      same = refl;
      begun = rw e (begun_next (list (goal.at.loop-j-init c).Start) (128 * b) b c.args.out.now _ c.requires.0.begun c.put_word.ensures
          (number_place (list (goal.at.loop-j-init c).Start) b));
    }

pub loop-j-preserved : goal.loop-j-preserved
loop-j-preserved c =
    let b = c.args.b in
    let j = c.loop-j.j in
    let e : 128 * b + 1 + (j + 1) ≡ 128 * b + 1 + j + 1 = omega arith in
    let f = component_place (list (goal.at.loop-j-preserved c).Start) b c.args.from j c.requires.1 c.loop-j-test.true in record {
      same = c.put_word-in-loop-j.auto.bytes ∙ c.loop-j.invariant.same;
      begun = rw e (begun_next (list (goal.at.loop-j-preserved c).Start) (128 * b + 1 + j) _ c.loop-j.out _ c.loop-j.invariant.begun
          c.put_word-in-loop-j.ensures f);
    }

pub returns : goal.returns
returns c =
    let l = c.loop-j in
    let b = c.args.b in
    let e : 128 * b + 1 + l.j ≡ 128 * b + 127 = omega arith in
    rw e at l.invariant.begun
