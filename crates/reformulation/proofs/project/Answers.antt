-- `project` meets its contract: sizes and rows decide, in this order; else the rows are written. Assumes nothing.
use Prim.Native.Nat.{◌+◌, ◌≤◌}
use native.Mathlib.Omega.{arith}
use borrow.Author.Tests.{le-leb, lt-leb}
use Rattle.reformulation.specs.Given.{fails, holds, unknowns_few}
use Rattle.reformulation.specs.Projecting.{few_rows, misfit, no_room, rows_long, written}
use mathlib.Core.Path.{ap}
use mathlib.Core.Bool.{not}
use Rattle.reformulation.proofs.project.Goals as goal
use Rattle.reformulation.proofs.project.Goals.{Else-not-unknowns_fit}

-- there is an unknown, and there are no more than 32
few : (c : Else-not-unknowns_fit) → let a = c.args in (1 ≤ a.q) × (a.q + a.k ≤ 32)
few c = let a = c.args in unknowns_few a.q a.k (holds c.unknowns_fit.ensures (ap not c.if-not-unknowns_fit.false))

pub returns-then-not-unknowns_fit : goal.returns-then-not-unknowns_fit
returns-then-not-unknowns_fit c = misfit _ _ _ _ _ (fails c.unknowns_fit.ensures (ap not c.if-not-unknowns_fit.true))

pub overflow_add-q : goal.overflow_add-q
overflow_add-q c = omega (arith, few c)

pub nonzero_div-rows : goal.nonzero_div-rows
nonzero_div-rows c = omega (arith, few c)

pub returns-then-rows-q : goal.returns-then-rows-q
returns-then-rows-q c =
    few_rows _ _ _ _ _ (holds c.unknowns_fit.ensures (ap not c.if-not-unknowns_fit.false)) (lt-leb _ _ c.if-rows-q.true)

pub nonzero_div-out : goal.nonzero_div-out
nonzero_div-out c = omega (arith, few (goal.at.nonzero_div-out c).Else-not-unknowns_fit)

pub returns-then-out-q : goal.returns-then-out-q
returns-then-out-q c =
    no_room _ _ _ _ _ (holds c.unknowns_fit.ensures (ap not c.if-not-unknowns_fit.false)) (le-leb _ _ c.if-rows-q.false) (lt-leb _ _ c.if-out-q.true)

pub copy-requires : goal.copy-requires
copy-requires c =
    let a = c.args in (
      (few (goal.at.copy-requires c).Else-not-unknowns_fit).1,
      rows_long a.found
          (a.q + a.k) a.rows.now c.if-rows-q.false,
      rows_long a.found a.q a.out.now c.if-out-q.false,
    )

pub returns : goal.returns
returns c =
    written _ _ _ _ _ (holds c.unknowns_fit.ensures (ap not c.if-not-unknowns_fit.false)) (le-leb _ _ c.if-rows-q.false)
    (le-leb _ _ c.if-out-q.false) c.copy.ensures
