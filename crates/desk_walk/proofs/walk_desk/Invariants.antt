-- `walk_desk` meets its contract. The walk from the first state is, at each turn, the walk from the state reached with the budget left. The measure is
-- that budget. Assumes nothing.
use lib.ListN.{length}
use mathlib.Core.Path.{◌≡◌}
use Rattle.desk_spec.specs.Desks.{desk_of}
use Rattle.desk_rows.specs.Images.{Images}
use Rattle.desk_walk.specs.Taking.{state_at}
use Rattle.desk_walk.specs.Walking.{Walking}
use Rattle.desk_walk.proofs.walk_desk.Given as goal

abbrev pub invariant-loop-height : goal.invariant-loop-height
invariant-loop-height l =
    (length l.stack ≡ length l.initial.stack) × (length l.list ≡ length l.initial.list)
    × Walking (desk_of l.p l.q l.coefs l.generators) l.budget
    (state_at l.r l.initial.stack l.initial.list l.initial.height l.initial.found l.initial.steps l.initial.deepest) l.left
    (state_at l.r l.stack l.list l.height l.found l.steps l.deepest)
    × (Images l.p l.q l.coefs l.generators l.n l.images × (length l.images ≡ 520) × (length l.top ≡ 16) × (length l.child ≡ 16))

abbrev pub decreases-loop-height : goal.decreases-loop-height
decreases-loop-height l = l.left
