-- `admitted_generators` meets its contract. The generators passed have been tried. Assumes nothing.
use mathlib.Core.Path.{refl, sym, ◌∙◌}
use native.Mathlib.Nat.{le_antisymm}
use native.Mathlib.Omega.{arith}
use Rattle.desk_walk.specs.Trying.{marks_room, tries_all, tries_closed, tries_covered, tries_large, tries_made, tries_none}
use Rattle.desk_walk.proofs.step.admitted_generators.Goals as goal

pub loop-j-init : goal.loop-j-init
loop-j-init c = (refl, tries_none _ _ _ _ _ _ _ _)

pub is_open-requires : goal.is_open-requires
is_open-requires c = (c.requires.0.factors c.loop-j.j c.loop-j-test.true, omega (arith, c.loop-j-test.true, c.requires.0.few))

pub overflow_add-made : goal.overflow_add-made
overflow_add-made c =
    omega (arith, marks_room c.loop-j.j c.loop-j.made _ c.loop-j.invariant.1.marked (omega (arith, c.loop-j-test.true, c.requires.0.few)))

pub loop-j-preserved-then-not-is_open : goal.loop-j-preserved-then-not-is_open
loop-j-preserved-then-not-is_open c =
    (c.loop-j.invariant.0, tries_closed _ _ _ _ _ _ _ _ c.loop-j.invariant.1 (sym c.is_open.ensures ∙ c.if-not-is_open.true))

pub loop-j-preserved-then-covered : goal.loop-j-preserved-then-covered
loop-j-preserved-then-covered c = (
  c.add.auto.z ∙ c.loop-j.invariant.0,
  tries_covered _ _ _ _ _ _ _ _ c.loop-j.invariant.1 (sym c.is_open.ensures ∙ c.if-not-is_open.false) c.add.ensures
      (sym c.covered.ensures ∙ c.if-covered.true),
)

pub returns-then-is_large : goal.returns-then-is_large
returns-then-is_large c =
    tries_large _ _ _ _ _ _ _ _ c.loop-j.invariant.1 (sym c.is_open.ensures ∙ c.if-not-is_open.false) c.add.ensures
    (sym c.covered.ensures ∙ c.if-covered.false) (sym c.is_large.ensures ∙ c.if-is_large.true) _ c.loop-j-test.true

pub loop-j-preserved : goal.loop-j-preserved
loop-j-preserved c = (
  c.add.auto.z ∙ c.loop-j.invariant.0,
  tries_made _ _ _ _ _ _ _ _ c.loop-j.invariant.1 (sym c.is_open.ensures ∙ c.if-not-is_open.false) c.add.ensures
      (omega (arith, c.loop-j-test.true, c.requires.0.few)) (sym c.covered.ensures ∙ c.if-covered.false) (sym c.is_large.ensures ∙ c.if-is_large.false),
)

pub returns : goal.returns
returns c = tries_all _ _ _ _ _ _ _ _ (rw (le_antisymm c.loop-j.auto.j-end c.loop-j-test.false) at c.loop-j.invariant.1)
