-- `lines::refused_with` meets its contract. Assumes nothing.
use native.Mathlib.Omega.{arith}
use Rattle.texts.proofs.PutTheorems.{put_then}
use Rattle.texts.proofs.DecimalLaws.{digits_64}
use Rattle.report.proofs.lines.refused_with.Goals as goal

pub number-detail-requires : goal.number-detail-requires
number-detail-requires c =
    omega (arith, c.word-number.ensures.place, c.word-number.ensures.same, digits_64 c.args.n c.ranges.n.fits)

pub counted-requires : goal.counted-requires
counted-requires c =
    omega (
      arith,
      c.number-detail.ensures.place,
      c.number-detail.ensures.same,
      c.word-number.ensures.place,
      c.word-number.ensures.same,
      digits_64 c.args.n c.ranges.n.fits,
    )

pub returns : goal.returns
returns c =
    put_then c.word-number.ensures (put_then c.number-detail.ensures c.counted.ensures.put)
