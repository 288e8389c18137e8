-- `least_pair` meets its contract: the least of the rows passed, and for the next row a pointer that has not fallen too far. Assumes nothing.
use Prim.Native.Nat.{◌+◌, ◌≤◌}
use Rattle.engine_search.specs.Falls.{Low}
use Rattle.engine_search.specs.Leasts.{best_to}
use Rattle.engine_search.specs.Places.{Falling, IsLeast}
use Rattle.engine_search.proofs.least_pair.Given as goal

abbrev pub invariant-loop-h : goal.invariant-loop-h
invariant-loop-h l =
    IsLeast l.d (best_to l.n l.values l.degrees l.d l.h) l.best × Falling l.n l.degrees (l.d + 1) l.h l.edge.first × (l.edge.first ≤ l.n)
    × Low l.n l.values l.edge.first l.edge.low
