-- `texts::put::signed` meets its contract: a minus, and then the size. Assumes nothing.
use Rattle.std.proofs.Common.{to_z-of_z}
use Rattle.texts.proofs.SignLaws.{numeral_negative}
use Rattle.texts.proofs.PutTheorems.{put_then}
use Rattle.texts.proofs.put.signed.Goals as goal

pub returns-then-z-lt0 : goal.returns-then-z-lt0
returns-then-z-lt0 c =
    let e = rw (to_z-of_z c.ranges.z) at c.size.ensures in
    rw (numeral_negative c.args.z (rw (to_z-of_z c.ranges.z) at c.if-z-lt0.true)) (put_then c.byte-next.ensures (rw e at c.number.ensures))
