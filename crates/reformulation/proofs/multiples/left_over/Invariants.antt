-- `multiples::left_over` meets its contract. The sum is what is left over after the rows passed. Assumes nothing.
use mathlib.Core.Path.{◌≡◌}
use Rattle.reformulation_spec.specs.Reformulation.{left_over, row_of}
use Rattle.reformulation.specs.Sums.{line_at}
use Rattle.reformulation.proofs.multiples.left_over.Given as goal

abbrev pub invariant-loop-r : goal.invariant-loop-r
invariant-loop-r l = l.sum ≡ left_over l.r (line_at l.t.by.now l.from) (line_at l.t.rows.now l.base) (row_of l.t.w l.t.table.now) l.j
