-- `texts::put::word` meets its contract: the bytes passed are the part that was written. Assumes nothing.
use Rattle.std.proofs.Common.{arith}
use Rattle.texts.proofs.PutTheorems.{put_part}
use Rattle.texts.proofs.put.word.Goals as goal

pub returns : goal.returns
returns c = put_part _ (omega arith) c.copy_from_slice.ensures.after c.requires
