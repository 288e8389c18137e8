-- `columns::check` meets its contract. No column passed is outside the profile. Assumes nothing.
use mathlib.Core.Path.{refl, sym, ap}
use mathlib.Core.Bool.{not}
use native.Mathlib.Nat.{le_antisymm}
use Rattle.definitions.specs.Answers.{refuse_first}
use Rattle.laws.proofs.AnswerLaws.{refuse_at, refuse_next}
use Rattle.single_spec.specs.Profile.{check26}
use Rattle.single_order.proofs.columns.check.Goals as goal

pub loop-j-init : goal.loop-j-init
unfolding refuse_first
loop-j-init c = refl

pub returns-then-not-in_profile : goal.returns-then-not-in_profile
unfolding check26
returns-then-not-in_profile c = sym (refuse_at 26 _ _ _ c.loop-j-test.true c.loop-j.invariant (cc (c.in_profile.ensures, (ap not c.if-not-in_profile.true))))

pub loop-j-preserved : goal.loop-j-preserved
loop-j-preserved c = refuse_next 26 _ _ c.loop-j.invariant (cc (c.in_profile.ensures, (ap not c.if-not-in_profile.false)))

pub returns : goal.returns
unfolding check26
returns c = let e = le_antisymm c.loop-j.auto.j-end c.loop-j-test.false in sym (rw e at c.loop-j.invariant)
