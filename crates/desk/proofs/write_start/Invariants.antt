-- `write_start` meets its contract. The rows of the generators passed have been written. Assumes nothing.
use lib.ListN.{length}
use mathlib.Core.Path.{◌≡◌}
use Rattle.desk.specs.Starting.{start_to}
use Rattle.desk.proofs.write_start.Given as goal

abbrev pub invariant-loop-k : goal.invariant-loop-k
invariant-loop-k l = (length l.stack ≡ length l.initial.stack) × (length l.t ≡ 16) × (l.stack ≡ start_to l.k l.q l.generators l.initial.stack)
