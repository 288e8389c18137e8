-- `sides::check_sides` meets its contract: no side passed is beyond the limit. Assumes nothing.
use mathlib.Core.Path.{◌≡◌}
use Rattle.definitions.specs.Answers.{go}
use Rattle.engine_checks.specs.Sides.{side_checks}
use Rattle.engine_checks.proofs.sides.check_sides.Given as goal

abbrev pub invariant-loop-i : goal.invariant-loop-i
invariant-loop-i l = side_checks l.i l.p l.q l.coefs l.rights l.lower ≡ go
