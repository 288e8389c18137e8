-- `equation_write::sides` meets its contract: the left side, " = " and the right side, one after the other. Assumes nothing.
use native.Mathlib.Omega.{arith}
use mir.Facts.{to_z-of_z}
use Rattle.texts.proofs.PutTheorems.{put_then}
use Rattle.equation_spec.specs.Writing.{written}
use Rattle.equation_write.specs.CallLaws.{sides_short}
use Rattle.equation_write.proofs.sides.Goals as goal

pub word-number-requires : goal.word-number-requires
word-number-requires c =
    omega (
      arith,
      c.terms-next.ensures.place,
      c.terms-next.ensures.same,
      sides_short c.args.row.now c.args.right c.requires.0 c.requires.1 c.requires.2,
      c.requires.3,
    )

pub signed-requires : goal.signed-requires
signed-requires c =
    rw (to_z-of_z c.ranges.right)
    (omega (
      arith,
      c.word-number.ensures.place,
      c.word-number.ensures.same,
      c.terms-next.ensures.place,
      c.terms-next.ensures.same,
      sides_short c.args.row.now c.args.right c.requires.0 c.requires.1 c.requires.2,
      c.requires.3,
    ))

pub returns : goal.returns
unfolding written
returns c =
    let r = rw (to_z-of_z c.ranges.right) at c.signed.ensures in record {
      put = put_then c.terms-next.ensures (put_then c.word-number.ensures r);
      upper_bound = omega (
        arith,
        r.place,
        c.word-number.ensures.place,
        c.terms-next.ensures.place,
        sides_short c.args.row.now c.args.right c.requires.0 c.requires.1 c.requires.2,
      );
    }
