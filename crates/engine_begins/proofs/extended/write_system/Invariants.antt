-- `extended::write_system` meets its contract: the rows passed have been written. Assumes nothing.
use Prim.Native.Nat.{◌+◌, ◌*◌}
use mathlib.Core.Path.{◌≡◌}
use lib.IntN.{pos}
use lib.ListN.{get_or}
use Rattle.engine_spec.specs.Engine.{fill_to}
use Rattle.engine_spec.specs.StartSides.{sides_system}
use Rattle.engine_begins.proofs.extended.write_system.Given as goal

abbrev pub invariant-loop-i : goal.invariant-loop-i
invariant-loop-i l = l.equations ≡ fill_to (l.i * (l.q + 1)) l.initial.equations 0 (λ k. get_or (sides_system l.p l.q l.coefs l.rights l.lower) k (pos 0))
