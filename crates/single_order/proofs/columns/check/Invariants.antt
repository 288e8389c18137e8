-- `columns::check` meets its contract. No column passed is outside the profile. Assumes nothing.
use mathlib.Core.Path.{◌≡◌}
use mathlib.Core.Bool.{not}
use Rattle.definitions.specs.Answers.{go, refuse_first}
use Rattle.definitions.specs.System.{column}
use Rattle.single_order.specs.Rows.{map_of}
use Rattle.single_spec.specs.Profile.{in_profile}
use Rattle.single_order.proofs.columns.check.Given as goal

abbrev pub invariant-loop-j : goal.invariant-loop-j
invariant-loop-j l = refuse_first 26 l.j (λ k. not (in_profile l.p (column (map_of l.p l.q l.coefs) k))) ≡ go
