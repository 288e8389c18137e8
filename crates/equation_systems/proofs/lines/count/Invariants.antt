-- `equation_systems::lines::count` meets its contract: from the end on, the lines of what was passed. Assumes nothing.
use Rattle.std.proofs.Common.{◌≡◌, drop}
use Rattle.equation_spec.specs.Lines.{line_count}
use Rattle.equation_systems.proofs.lines.count.Given as goal

abbrev pub invariant-loop-i : goal.invariant-loop-i
invariant-loop-i l = l.n ≡ line_count (drop l.i l.text)
