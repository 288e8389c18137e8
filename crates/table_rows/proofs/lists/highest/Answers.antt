-- `lists::highest` meets its contract. Outer loop: no row passed is at or below t. Inner loop: the components passed are at most t's, and the row
-- lies within the list. Assumes nothing.
use mathlib.Core.Path.{◌≡◌, refl, ap, ◌∙◌}
use native.Mathlib.Nat.{le_antisymm}
use native.Mathlib.Omega.{arith}
use lib.Dec.{leb}
use borrow.Author.Rules.{rules}
use borrow.Author.Tests.{le-leb, lt-leb}
use Rattle.linear.specs.Tests.{all_to}
use Rattle.linear.proofs.LoopLaws.{all_next}
use Rattle.definitions.specs.Highest.{highest}
use Rattle.definitions.specs.System.{is_at_or_below}
use Rattle.table_rows.specs.Places.{place_of}
use Rattle.table_rows.specs.Rows.{tuple}
use Rattle.table_rows.proofs.Search.{left_all, left_fits, left_here, left_long, left_next, left_none, left_place}
use Rattle.table_rows.proofs.lists.highest.Goals as goal
use Rattle.table_rows.proofs.lists.highest.Goals.{Joined-j-eq0, else-j-eq0, then-j-eq0}

-- the number that is compared is component j
component : (c : Joined-j-eq0)
    → c.if-j-eq0.x ≡ tuple c.args.t.now c.loop-j.j
component c = elim c.if-j-eq0.branch [ then-j-eq0 w ↦ rw w.if-j-eq0.true w.x-is | else-j-eq0 w ↦ w.x-is ]

pub rows-init : goal.rows-init
rows-init c = (refl, left_all leb _ _ _ _)

pub overflow_sub-rest : goal.overflow_sub-rest
overflow_sub-rest c = left_long _ _ _ _ _ c.rows.invariant.1 (omega (arith, c.rows-test.true))

pub loop-j-init : goal.loop-j-init
unfolding all_to
loop-j-init c = (omega (arith, left_fits _ _ _ _ _ c.rows.invariant.1 (omega (arith, c.rows-test.true))), refl)

pub rows-smaller : goal.rows-smaller
rows-smaller c =
    omega (arith, left_long _ _ _ _ _ c.rows.invariant.1 (omega (arith, c.rows-test.true)), c.requires.0)

pub rows-preserved : goal.rows-preserved
rows-preserved c = (
  c.rows.invariant.0,
  left_next _ _ _ _ _ c.rows.invariant.1 (omega (arith, c.rows-test.true)) _ c.loop-j-test.true
      (lt-leb _ _ (rw (component (goal.at.rows-preserved c).Joined-j-eq0) at c.if-x-list.true)),
)

pub loop-j-preserved : goal.loop-j-preserved
loop-j-preserved c =
    (search rules, all_next _ _ c.loop-j.invariant.1 (le-leb _ _ (rw (component (goal.at.loop-j-preserved c).Joined-j-eq0) at c.if-x-list.false)))

pub overflow_add-place : goal.overflow_add-place
overflow_add-place c =
    omega (arith, left_place _ _ _ _ _ c.rows.invariant.1 (omega (arith, c.rows-test.true)) c.requires.0)

pub returns-after-rows : goal.returns-after-rows
unfolding highest is_at_or_below
returns-after-rows c =
    ap place_of c.rows.invariant.0 ∙ left_none _ _ _ _ _ c.rows.invariant.1 c.requires.0 c.rows-test.false

pub returns-after-loop-j : goal.returns-after-loop-j
unfolding highest is_at_or_below
returns-after-loop-j c =
    let all = rw (le_antisymm c.loop-j.auto.j-end c.loop-j-test.false) at c.loop-j.invariant.1 in
    left_here _ _ _ _ _ c.rows.invariant.1 (omega (arith, c.rows-test.true)) c.requires.0 all
