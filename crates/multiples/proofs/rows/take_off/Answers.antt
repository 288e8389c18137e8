-- `rows::take_off` meets its contract: the components passed are less. Assumes nothing.
use mathlib.Core.Path.{refl}
use native.Mathlib.Nat.{le_antisymm}
use native.Mathlib.Omega.{arith}
use lib.ListN.{length-set}
use borrow.Author.Rules.{rules}
use Rattle.multiples.proofs.Taking.{less_next, less_none, still_goes}
use Rattle.multiples.proofs.rows.take_off.Goals as goal

pub loop-j-init : goal.loop-j-init
loop-j-init c = (refl, less_none _ _ _ _)

pub overflow_mul-rest : goal.overflow_mul-rest
overflow_mul-rest c =
    omega (arith, still_goes c.loop-j-test.true c.requires.2 c.loop-j.invariant.1)

pub overflow_sub-rest : goal.overflow_sub-rest
overflow_sub-rest c = still_goes c.loop-j-test.true c.requires.2 c.loop-j.invariant.1

pub loop-j-preserved : goal.loop-j-preserved
loop-j-preserved c = let i = c.loop-j.invariant in (rw length-set i.0, less_next (search rules) i.1)

pub returns : goal.returns
returns c = let i = c.loop-j.invariant in rw (← le_antisymm c.loop-j.auto.j-end c.loop-j-test.false) i.1
