-- `reasons::left_side` meets its contract. The sum so far is that over the unknowns passed. Assumes nothing.
use mathlib.Core.Path.{◌≡◌}
use Prim.Native.Nat.{◌+◌, ◌*◌}
use lib.IntN.{pos}
use lib.ListN.{get_or}
use Rattle.linear.specs.Systems.{inner}
use Rattle.table_rows.specs.Rows.{tuple}
use Rattle.reasons.proofs.left_side.Given as goal

abbrev pub invariant-loop-j : goal.invariant-loop-j
invariant-loop-j l = (l.sum ≡ inner l.j (λ k. get_or l.coefs (l.i * l.q + k) (pos 0)) (λ k. pos (tuple l.t k)))
