use lib.Bits.{and_le_r}
use native.Mathlib.Omega.{arith}
use Rattle.engine_reduce.proofs.memory.may_drop.Goals as goal

pub fits-requires : goal.fits-requires
fits-requires c = omega (arith, and_le_r c.args.held 8608480567731124087)
