-- `list_file::write::blocks::write` meets its contract. The blocks passed stand in the buffer. Assumes nothing.
use Rattle.std.proofs.Common.{◌≡◌, refl, ◌∙◌, arith}
use Rattle.list_spec.specs.Form.{ListFile, file_blocks}
use Rattle.list_file.specs.WriteAnswer.{list_of}
use Rattle.list_file.specs.BlockLaws.{begun_none, begun_all}
use Rattle.list_file.proofs.write.blocks.write.Goals as goal
use Rattle.list_file.proofs.write.blocks.write.Goals.{Start}

abbrev list : Start → ListFile
list s = list_of s.args.p s.args.q s.args.coefs.now s.args.rows.now s.args.ending

pub loop-b-init : goal.loop-b-init
loop-b-init c = record { same = refl; begun = begun_none (list (goal.at.loop-b-init c).Start) _ }

pub write_block-requires : goal.write_block-requires
write_block-requires c =
    record {
      writable = record { list = c.requires.list; exact = c.loop-b.invariant.same ∙ c.requires.exact };
      inside = omega (arith, c.requires.exact, c.loop-b-test.true);
      begun = c.loop-b.invariant.begun;
    }

pub loop-b-preserved : goal.loop-b-preserved
loop-b-preserved c = record { same = c.write_block.auto.out ∙ c.loop-b.invariant.same; begun = c.write_block.ensures }

pub returns : goal.returns
returns c =
    let l = c.loop-b in
    let e : l.b ≡ file_blocks (list (goal.at.returns c).Start) = omega (arith, c.requires.exact, l.auto.b-end, c.loop-b-test.false) in
    begun_all (list (goal.at.returns c).Start) l.out (l.invariant.same ∙ c.requires.exact) (rw e at l.invariant.begun)
