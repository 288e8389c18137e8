-- `subtract` meets its contract. Assumes nothing.
use native.Mathlib.Nat.{le_antisymm}
use native.Mathlib.Omega.{arith}
use Rattle.candidates.specs.Open.{differs_more, differs_none}
use Rattle.candidates.proofs.subtract.Goals as goal

pub loop-j-init : goal.loop-j-init
loop-j-init c = differs_none c.requires.0.3

pub overflow_sub-over : goal.overflow_sub-over
overflow_sub-over c = omega (arith, c.requires.1 c.loop-j.j c.loop-j-test.true)

pub bounds-over-j : goal.bounds-over-j
bounds-over-j c = omega (arith, c.loop-j.invariant.size, c.requires.0.0, c.loop-j-test.true)

pub loop-j-preserved : goal.loop-j-preserved
loop-j-preserved c = differs_more (omega (arith, c.requires.0.0, c.loop-j-test.true)) c.loop-j.invariant

pub returns : goal.returns
returns c = rw (le_antisymm c.loop-j.auto.j-end c.loop-j-test.false) at c.loop-j.invariant
