-- `lines::field` meets its contract. Assumes nothing.
use native.Mathlib.Omega.{arith}
use Rattle.texts.proofs.PutTheorems.{put_then}
use Rattle.texts.proofs.DecimalLaws.{digits_32}
use Rattle.report.specs.Rows.{field_text}
use Rattle.report.proofs.lines.field.Goals as goal

pub number-end-requires : goal.number-end-requires
number-end-requires c = omega (arith, digits_32 c.args.n c.ranges.n.fits)

pub byte-requires : goal.byte-requires
byte-requires c =
    omega (arith, c.number-end.ensures.place, c.number-end.ensures.same, digits_32 c.args.n c.ranges.n.fits)

pub returns : goal.returns
unfolding field_text
returns c =
    record {
      put = put_then c.number-end.ensures (rw c.separator_after.ensures at c.byte.ensures);
      upper_bound = omega (arith, c.byte.ensures.place, c.number-end.ensures.place, digits_32 c.args.n c.ranges.n.fits);
    }
