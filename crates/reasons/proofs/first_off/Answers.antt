-- `reasons::first_off` meets its contract. The equations passed are not off. Assumes nothing.
use mathlib.Core.Path.{refl}
use native.Mathlib.Nat.{le_antisymm}
use Rattle.linear.specs.Places.{first_to}
use Rattle.linear.proofs.PlaceLaws.{first_next, first_here}
use Rattle.definitions.specs.Reasons.{first_off}
use Rattle.reasons.proofs.Amounts.{equation_of, amount_kept, amount_off, amount_even}
use Rattle.reasons.proofs.first_off.Goals as goal

pub loop-i-init : goal.loop-i-init
unfolding first_to
loop-i-init c = refl

pub left_side-amount-requires : goal.left_side-amount-requires
left_side-amount-requires c = let p = c.requires in (equation_of p.0 p.1 c.loop-i-test.true, p.1)

pub returns-then-amount-ne0 : goal.returns-then-amount-ne0
unfolding first_off
returns-then-amount-ne0 c =
    let p = c.requires in
    let e = c.left_side-amount.ensures in (
      first_here _ _ _ c.loop-i-test.true c.loop-i.invariant (amount_off p.0 p.1 c.loop-i-test.true e c.if-amount-ne0.true),
      amount_kept p.0 p.1 c.loop-i-test.true e,
    )

pub loop-i-preserved : goal.loop-i-preserved
loop-i-preserved c =
    let p = c.requires in
    first_next _ _ c.loop-i.invariant (amount_even p.0 p.1 c.loop-i-test.true c.left_side-amount.ensures c.if-amount-ne0.false)

pub returns : goal.returns
unfolding first_off
returns c = cc (le_antisymm c.loop-i.auto.i-end c.loop-i-test.false, c.loop-i.invariant)
