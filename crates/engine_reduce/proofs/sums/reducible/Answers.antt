-- `reducible` is the test: a yes by what is remembered names a row, and all rows are looked at before a no. Assumes nothing.
use mathlib.Core.Path.{sym}
use mir.Facts.{to_z-of_z}
use Rattle.engine_reduce.proofs.sums.reducible.Goals as goal

pub returns-then-dropped : goal.returns-then-dropped
returns-then-dropped c =
    sym (rw (to_z-of_z c.ranges.sum) at (c.dropped.ensures.named c.if-dropped.true))

pub returns-then-known : goal.returns-then-known
returns-then-known c =
    sym (rw (to_z-of_z c.ranges.sum) at (c.known.ensures.named c.if-known.true))

pub returns-in-Some : goal.returns-in-Some
returns-in-Some c =
    let f = rw c.in-Some.is at c.search.ensures in
    sym (rw (to_z-of_z c.ranges.sum) at f.1)

pub returns : goal.returns
returns c =
    let f = rw c.in_default.is at c.search.ensures in
    sym (rw (to_z-of_z c.ranges.sum) at f)
