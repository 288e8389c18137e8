-- `c_dispatch::write::runs` meets its contract. Assumes nothing.
use native.Mathlib.Omega.{arith}
use Rattle.c_dispatch.proofs.WordLaws.{writing_begins, writing_more, writing_ends}
use Rattle.c_dispatch.proofs.write.runs.Goals as goal

pub loop-i-init : goal.loop-i-init
loop-i-init c = writing_begins _ _ c.requires

pub run-requires : goal.run-requires
run-requires c = omega (arith, c.loop-i-test.true, c.loop-i.invariant.long)

pub loop-i-preserved : goal.loop-i-preserved
loop-i-preserved c = writing_more c.loop-i.invariant c.loop-i-test.true c.run.ensures

pub returns : goal.returns
returns c = writing_ends c.loop-i.invariant c.loop-i-test.false
