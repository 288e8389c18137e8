-- `packing::count_where` meets its contract: the places passed are counted. Assumes nothing.
use Rattle.std.proofs.Common.{◌≡◌, ℕ, Bool, ◌<◌, ◌≤◌}
use Rattle.linear.specs.Tests.{count_to}
use Rattle.engine_rows.proofs.packing.count_where.Given as goal

abbrev pub invariant-loop-i : goal.invariant-loop-i
invariant-loop-i g l =
    (l.count ≤ l.i) × ((f : ℕ → Bool) → ((i : ℕ) (b : Bool) → i < l.n → goal.F-post g l.test i b → b ≡ f i) → l.count ≡ count_to l.i f)
