-- `below_zero` meets its contract. The marks so far are those of the unknowns passed, from the last one down. Assumes nothing.
use Rattle.std.proofs.Common.{rules, ◌≡◌, ◌-◌, pos, SFits, arith, to_z-of_z}
use Rattle.std.specs.Int.Signed.{lt_z}
use Rattle.std.specs.Int.{w64}
use Rattle.linear.specs.Tests.{number}
use Rattle.products.specs.Marks.{fold_all, fold_next, fold_none, fold_room}
use Rattle.products.specs.Products.{entry}
use Rattle.products.proofs.below_zero.Goals as goal
use Rattle.products.proofs.below_zero.Goals.{After-sign}

-- what `sign` gives, of the number that the table has
signed : (c : After-sign) → c.sign.result ≡ number (lt_z (entry c.args.c.now c.args.k (c.loop-j.j - 1)) (pos 0))
signed c =
    let fits : SFits w64 (entry c.args.c.now c.args.k (c.loop-j.j - 1)) = search rules in
    rw (to_z-of_z fits) at c.sign.ensures

pub loop-j-init : goal.loop-j-init
loop-j-init c = fold_none _ _

pub overflow_add-below : goal.overflow_add-below
overflow_add-below c = omega (arith, fold_room _ _ _ c.requires.1 c.loop-j.invariant)

pub overflow_add-below-in-loop-j : goal.overflow_add-below-in-loop-j
overflow_add-below-in-loop-j c = omega (arith, fold_room _ _ _ c.requires.1 (fold_next _ _ _ c.loop-j.invariant c.loop-j-test.true (signed c)))

pub loop-j-preserved : goal.loop-j-preserved
loop-j-preserved c = fold_next _ _ _ c.loop-j.invariant c.loop-j-test.true (signed c)

pub returns : goal.returns
returns c =
    let ended : c.loop-j.j ≡ 0 = omega (arith, c.loop-j-test.false) in
    fold_all _ _ (rw ended at c.loop-j.invariant)
