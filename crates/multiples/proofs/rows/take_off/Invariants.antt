-- `rows::take_off` meets its contract: the components passed are less. Assumes nothing.
use mathlib.Core.Path.{◌≡◌}
use lib.ListN.{length}
use Rattle.multiples.specs.Taking.{Less}
use Rattle.multiples.proofs.rows.take_off.Given as goal

abbrev pub invariant-loop-j : goal.invariant-loop-j
invariant-loop-j l = (length l.rest ≡ length l.initial.rest) × Less l.j l.n l.list l.base l.initial.rest l.rest
