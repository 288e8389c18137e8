-- `rows::take` meets its contract: the rows from i on have been taken. Assumes nothing.
use mathlib.Core.Path.{◌≡◌}
use lib.ListN.{length}
use Rattle.multiples.specs.Taking.{Taking}
use Rattle.multiples.proofs.rows.take.Given as goal

abbrev pub invariant-loop-i : goal.invariant-loop-i
invariant-loop-i l =
    (length l.rest ≡ length l.initial.rest) × (length l.times ≡ length l.initial.times)
    × Taking l.q l.found l.list l.initial.rest l.initial.times l.rest l.times l.i
