-- `lines::counted` meets its contract. A number of 64 bits has at most 20 digits. Assumes nothing.
use native.Mathlib.Omega.{arith}
use Rattle.report_spec.specs.Printed as paper
use Rattle.texts.proofs.PutTheorems.{put_then}
use Rattle.texts.proofs.DecimalLaws.{digits_64}
use Rattle.report.proofs.lines.counted.Goals as goal

pub number-end-requires : goal.number-end-requires
number-end-requires c =
    omega (arith, c.word-digits.ensures.place, c.word-digits.ensures.same, digits_64 c.args.n c.ranges.n.fits)

pub byte-requires : goal.byte-requires
byte-requires c =
    omega (
      arith,
      c.number-end.ensures.place,
      c.number-end.ensures.same,
      c.word-digits.ensures.place,
      c.word-digits.ensures.same,
      digits_64 c.args.n c.ranges.n.fits,
    )

pub returns : goal.returns
unfolding paper.counted
returns c =
    record {
      put = put_then c.word-digits.ensures (put_then c.number-end.ensures c.byte.ensures);
      upper_bound = omega (arith, c.byte.ensures.place, c.number-end.ensures.place, c.word-digits.ensures.place, digits_64 c.args.n c.ranges.n.fits);
    }
