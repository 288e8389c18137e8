-- `lines::row` meets its contract. What is left to write is the line from the next number on. Assumes nothing.
use Prim.Native.Nat.{◌+◌, ◌*◌, ◌≤◌}
use mathlib.Core.List.{map}
use lib.IntN.{pos}
use lib.ListN.{drop}
use Rattle.texts.specs.Put.{Rest}
use Rattle.map_spec.specs.Form.{line}
use Rattle.report.proofs.lines.row.Given as goal

abbrev pub invariant-loop-i : goal.invariant-loop-i
invariant-loop-i l =
    (l.next ≤ l.at + 11 * l.i)
    × Rest l.initial.out l.at (line (map pos l.numbers)) l.out l.next (line (map pos (drop l.i l.numbers)))
