-- `next_pair` meets its contract: the rows passed have no pair that is left, and for the next one the pointer has not fallen too far. Assumes nothing.
use Prim.Native.Nat.{◌≤◌}
use Rattle.engine_search.specs.Places.{Falling}
use Rattle.engine_search.specs.Rows.{Searched}
use Rattle.engine_search.proofs.next_pair.Given as goal

abbrev pub invariant-loop-upper : goal.invariant-loop-upper
invariant-loop-upper l =
    (l.first ≤ l.n) × Searched l.n l.values l.degrees l.d l.fn.at.upper l.fn.at.lower l.upper l.lower × Falling l.n l.degrees l.d l.upper l.first
