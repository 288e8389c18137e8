-- `list_file::read::tables::copy_coefs` meets its contract. The entries passed are those of the stream, and the others are as they were. Assumes nothing.
use Rattle.std.proofs.Common.{pos, refl, ◌∙◌, le_antisymm, arith, length-set, to_z-of_z, w32}
use borrow.Author.Rules.{sfits_of}
use Rattle.list_spec.proofs.ListLaws.{listed_next}
use Rattle.list_spec.specs.Reading.{stream_at, listed}
use Rattle.list_spec.specs.Words.{signed}
use Rattle.list_file.proofs.read.tables.copy_coefs.Goals as goal

pub loop-i-init : goal.loop-i-init
unfolding listed
loop-i-init c = record { same = refl; copied = refl }

pub stream_word-requires : goal.stream_word-requires
stream_word-requires c = omega arith

pub loop-i-preserved : goal.loop-i-preserved
loop-i-preserved c =
    let l = c.loop-i in
    let a = c.args in record {
      same = length-set l.coefs l.i _ ∙ l.invariant.same;
      copied = rw (to_z-of_z {w = w32} (sfits_of c.signed.type_inv), c.signed.ensures, c.stream_word.ensures, l.invariant.copied)
          (listed_next (pos 0) l.i (λ k. signed (stream_at a.file.now k)) a.coefs.now (omega arith));
    }

pub returns : goal.returns
returns c = rw (← le_antisymm c.loop-i.auto.i-end c.loop-i-test.false) c.loop-i.invariant.copied
