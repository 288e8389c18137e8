-- `walk_system` meets its contract. The walk from the first state is, at each turn, the walk from the state reached with the budget left. The measure is
-- the number of steps until the call stops. Assumes nothing.
use mathlib.Core.Path.{◌≡◌}
use Prim.Native.Nat.{◌+◌, ◌-◌, ◌≤◌}
use lib.ListN.{length}
use Rattle.calls.specs.Paper.{kind_of, state_with, system_with}
use Rattle.candidates.specs.Kinds.{asked, beside, kind_by}
use Rattle.walking.specs.WalkLaws.{Walking}
use Rattle.walking.proofs.walk_system.Given as goal

abbrev pub invariant-loop-height : goal.invariant-loop-height
invariant-loop-height l =
    (length l.stack ≡ length l.initial.stack) × (length l.list ≡ length l.initial.list) × (length l.second ≡ length l.initial.second)
    × Walking (system_with (kind_by l.kind) l.p l.q l.coefs l.limit) l.gram l.budget (state_with l.initial.stack l.initial.list l.initial.second l.r)
    (l.first + l.budget - l.steps)
    (beside (asked l.stack l.list l.second l.height l.found l.other) (kind_of l.r.kind) l.steps l.r.steps2.0 l.deepest) l.inner l.sums
    × (length l.top ≡ 16)
    × (l.steps ≤ l.stop)
    × (l.first ≤ l.steps)

abbrev pub decreases-loop-height : goal.decreases-loop-height
decreases-loop-height l = l.stop - l.steps
