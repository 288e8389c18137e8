-- `checks::coefficients::any_outside` meets its contract: `any` says whether an entry passed is out of range. Assumes nothing.
use mathlib.Core.Path.{◌≡◌}
use lib.IntN.{pos}
use lib.ListN.{get_or}
use Rattle.linear.specs.Tests.{any_to}
use Rattle.definitions.specs.Refusals.{out_of_range}
use Rattle.checks.proofs.coefficients.any_outside.Given as goal

abbrev pub invariant-loop-i : goal.invariant-loop-i
invariant-loop-i l = l.any ≡ any_to l.i (λ k. out_of_range (get_or l.entries k (pos 0)))
