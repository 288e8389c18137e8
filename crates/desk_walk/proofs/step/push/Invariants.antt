-- `push` meets its contract. The rows of the generators passed have been written. Assumes nothing.
use lib.ListN.{length}
use mathlib.Core.Path.{◌≡◌}
use Rattle.definitions.specs.Tables.{frozen}
use Rattle.desk_walk.specs.Pushing.{Pushed}
use Rattle.desk_walk.proofs.step.push.Given as goal

abbrev pub invariant-loop-j : goal.invariant-loop-j
invariant-loop-j l =
    (length l.stack ≡ length l.initial.stack) × (length l.child ≡ length l.initial.child)
    × Pushed l.q l.generators l.initial.stack l.level l.top l.marks (frozen l.made) l.j l.stack l.h l.frozen
