-- `same::standing` meets its contract. Outer loop: no row passed is t. Inner loop: the components passed are those of t, and the row
-- lies within the list. Assumes nothing.
use mathlib.Core.Path.{refl, ap, ◌∙◌}
use native.Mathlib.Nat.{le_antisymm}
use native.Mathlib.Omega.{arith}
use lib.Dec.{eqb}
use borrow.Author.Rules.{rules}
use borrow.Author.Tests.{eq-eqb, ne_eqb}
use Rattle.linear.specs.Tests.{all_to}
use Rattle.linear.proofs.LoopLaws.{all_next}
use Rattle.definitions.specs.Reasons.{is_same, standing}
use Rattle.table_rows.specs.Places.{place_of}
use Rattle.table_rows.proofs.Search.{left_all, left_fits, left_here, left_long, left_next, left_none, left_place}
use Rattle.table_rows.proofs.same.standing.Goals as goal

pub rows-init : goal.rows-init
rows-init c = (refl, left_all eqb _ _ _ _)

pub overflow_sub-rest : goal.overflow_sub-rest
overflow_sub-rest c = left_long _ _ _ _ _ c.rows.invariant.1 c.rows-test.true

pub loop-j-init : goal.loop-j-init
unfolding all_to
loop-j-init c = (omega (arith, left_fits _ _ _ _ _ c.rows.invariant.1 c.rows-test.true), refl)

pub rows-smaller : goal.rows-smaller
rows-smaller c =
    omega (arith, left_long _ _ _ _ _ c.rows.invariant.1 c.rows-test.true, c.requires.0)

pub rows-preserved : goal.rows-preserved
rows-preserved c =
    (c.rows.invariant.0, left_next _ _ _ _ _ c.rows.invariant.1 c.rows-test.true _ c.loop-j-test.true (ne_eqb _ _ c.if-list-rest.true))

pub loop-j-preserved : goal.loop-j-preserved
loop-j-preserved c =
    (search rules, all_next _ _ c.loop-j.invariant.1 (eq-eqb _ _ c.if-list-rest.false))

pub overflow_add-place : goal.overflow_add-place
overflow_add-place c =
    omega (arith, left_place _ _ _ _ _ c.rows.invariant.1 c.rows-test.true c.requires.0)

pub returns-after-rows : goal.returns-after-rows
unfolding standing is_same
returns-after-rows c =
    ap place_of c.rows.invariant.0 ∙ left_none _ _ _ _ _ c.rows.invariant.1 c.requires.0 c.rows-test.false

pub returns-after-loop-j : goal.returns-after-loop-j
unfolding standing is_same
returns-after-loop-j c =
    let all = rw (le_antisymm c.loop-j.auto.j-end c.loop-j-test.false) at c.loop-j.invariant.1 in
    left_here _ _ _ _ _ c.rows.invariant.1 c.rows-test.true c.requires.0 all
