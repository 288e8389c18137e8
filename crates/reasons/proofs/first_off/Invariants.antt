-- `reasons::first_off` meets its contract. The equations passed are not off. Assumes nothing.
use mathlib.Core.Path.{◌≡◌}
use mathlib.Core.Bool.{not}
use mathlib.Core.Option.{none}
use Rattle.linear.specs.Places.{first_to}
use Rattle.definitions.specs.System.{image_of, is_zero}
use Rattle.table_rows.specs.Rows.{tuple}
use Rattle.definitions.specs.Input.{input_of, map_of}
use Rattle.reasons.proofs.first_off.Given as goal

abbrev pub invariant-loop-i : goal.invariant-loop-i
invariant-loop-i l = (first_to l.i (λ k. not (is_zero (image_of (map_of (input_of l.p l.q l.coefs)) (tuple l.t) k))) ≡ none)
