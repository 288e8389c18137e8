-- `equation_systems::lines::line_end` meets its contract. No byte passed is a newline. Assumes nothing.
use Rattle.std.proofs.Common.{◌≡◌, ◌≤◌, ◌+◌, ◌-◌, length, drop}
use Rattle.equation_spec.specs.Lines.{line_length}
use Rattle.equation_systems.proofs.lines.line_end.Given as goal

abbrev pub invariant-loop-end : goal.invariant-loop-end
invariant-loop-end l = record { inside : l.end ≤ length l.text; comes : l.end + line_length (drop l.end l.text) ≡ l.at + line_length (drop l.at l.text) }

abbrev pub decreases-loop-end : goal.decreases-loop-end
decreases-loop-end l = length l.text - l.end
