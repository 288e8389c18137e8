-- `admitted_generators` meets its contract. The generators passed have been tried. Assumes nothing.
use lib.ListN.{length}
use mathlib.Core.Path.{◌≡◌}
use Rattle.desk_walk.specs.Trying.{Tries}
use Rattle.desk_walk.proofs.step.admitted_generators.Given as goal

abbrev pub invariant-loop-j : goal.invariant-loop-j
invariant-loop-j l =
    (length l.child ≡ length l.initial.child) × Tries l.p l.q l.generators l.images l.list l.found l.top l.marks l.j l.made
