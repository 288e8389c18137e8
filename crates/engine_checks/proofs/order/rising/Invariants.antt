-- `order::rising` meets its contract: the degrees passed rise, and the last one is remembered. Assumes nothing.
use Rattle.std.proofs.Common.{◌≡◌, ℕ, List, ◌-◌, true}
use Rattle.std.specs.Prelude.{◌&&◌, leb, ltb}
use Rattle.linear.specs.Tests.{all_to}
use Rattle.linear.specs.Tuples.{total}
use Rattle.definitions.specs.Tables.{at}
use Rattle.engine_checks.specs.Order.{degree_before}
use Rattle.engine_checks.proofs.order.rising.Given as goal

abbrev pub degrees_of : List ℕ → ℕ → ℕ → ℕ
degrees_of table q i = total (at table q i) q

abbrev pub invariant-loop-i : goal.invariant-loop-i
invariant-loop-i l = (l.before ≡ degree_before (degrees_of l.table l.q) l.i)
    × (all_to l.i (λ k. ltb 0 (degrees_of l.table l.q k)
    && (leb (degrees_of l.table l.q (k - 1)) (degrees_of l.table l.q k) && leb (degrees_of l.table l.q k) l.d)) ≡ true)
