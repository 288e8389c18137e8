-- `at_every` meets its contract: `every` is the test of the places passed. Assumes nothing.
use Rattle.std.proofs.Common.{◌≡◌, ℕ, Bool, ◌<◌}
use Rattle.linear.specs.Tests.{all_to}
use Rattle.engine_beside.proofs.places.at_every.Given as goal

abbrev pub invariant-loop-j : goal.invariant-loop-j
invariant-loop-j g l =
    (f : ℕ → Bool) → ((j : ℕ) (b : Bool) → j < l.n → goal.F-post g l.test j b → b ≡ f j) → l.every ≡ all_to l.j f
