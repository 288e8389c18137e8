-- `passed` meets its contract. The marks so far are those of the unknowns passed. Assumes nothing.
use mathlib.Core.Path.{◌≡◌}
use mathlib.Core.Bool.{false, ◌&&◌}
use Prim.Native.Nat.{ℕ}
use lib.Dec.{eqb}
use Rattle.linear.specs.Tests.{any_to}
use Rattle.definitions.specs.Tables.{at, frozen}
use Rattle.definitions.specs.Step.{marks_to}
use Rattle.table_rows.specs.Rows.{tuple}
use Rattle.products.specs.Scan.{Left}
use Rattle.candidates.specs.Grow.{child_by}
use Rattle.candidates.proofs.passed.Given as goal

abbrev pub invariant-loop-rest : goal.invariant-loop-rest
invariant-loop-rest l =
    (l.t ≡ l.initial.t) × (n : ℕ) × Left l.q (frozen l.left) n l.rest
    × (l.made ≡ marks_to n (child_by l.w l.from l.found (at l.list l.w) (tuple l.initial.t) l.left))
    × (any_to n (λ j. child_by l.w l.from l.found (at l.list l.w) (tuple l.initial.t) l.left j && eqb (tuple l.initial.t j) l.limit) ≡ false)

abbrev pub decreases-loop-rest : goal.decreases-loop-rest
decreases-loop-rest l = l.rest
