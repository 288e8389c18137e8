-- `writing::combine` meets its contract: the coefficients passed are combined, those ahead are as they were. Assumes nothing.
use mathlib.Core.Path.{◌≡◌}
use Rattle.engine_spec.specs.Engine.{fill_to}
use Rattle.engine_begins.specs.Writing.{combined_at}
use Rattle.engine_begins.proofs.writing.combine.Given as goal

abbrev pub invariant-loop-j : goal.invariant-loop-j
invariant-loop-j l = l.equations ≡ fill_to l.j l.initial.equations l.x (combined_at l.x l.y l.u l.t l.initial.equations)
