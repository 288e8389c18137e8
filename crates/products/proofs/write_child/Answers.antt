-- `write_child` meets its contract. The row is written up to j. Assumes nothing.
use Rattle.std.proofs.Common.{arith}
use Rattle.products.specs.Turns.{child_stored, written_ahead, written_next}
use Rattle.products.proofs.write_child.Goals as goal

pub loop-j-preserved : goal.loop-j-preserved
loop-j-preserved c =
    let ahead = written_ahead c.loop-j.invariant c.requires.below (omega (arith, c.requires.gram_small.unknowns, c.loop-j-test.true)) in
    written_next c.loop-j.invariant (omega arith) (child_stored c.requires.gram_small c.requires.parent_small _ _ c.requires.unknown c.loop-j-test.true ahead)
