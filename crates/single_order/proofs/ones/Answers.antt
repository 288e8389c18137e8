-- `ones` meets its contract. The components passed are 0 or 1, and so many are 1. Assumes nothing.
use Rattle.std.proofs.Common.{rules}
use Rattle.single_order.specs.Rows.{ones_all, ones_large, ones_none, ones_one, ones_zero}
use Rattle.single_order.proofs.ones.Goals as goal
use Rattle.single_order.proofs.ones.Goals.{in-0, in-1}

pub loop-j-init : goal.loop-j-init
loop-j-init c = ones_none _

pub returns-in_default : goal.returns-in_default
returns-in_default c = ones_large c.loop-j.invariant _ c.loop-j-test.true (search rules) (search rules)

pub loop-j-preserved : goal.loop-j-preserved
loop-j-preserved c =
    elim c.match-list-base.branch [
      | in-0 w ↦ rw w.n-is (ones_zero c.loop-j.invariant (search rules))
      | in-1 w ↦ rw w.n-is (ones_one c.loop-j.invariant (search rules))
    ]

pub returns : goal.returns
returns c = ones_all c.loop-j.invariant _ c.loop-j.auto.j-end c.loop-j-test.false
