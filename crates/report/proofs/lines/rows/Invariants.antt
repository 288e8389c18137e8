-- `lines::rows` meets its contract. What is left to write are the rows from the next one on. Assumes nothing.
use Prim.Native.Nat.{◌+◌, ◌*◌, ◌-◌, ◌≤◌}
use mathlib.Core.List.{map}
use lib.IntN.{pos}
use lib.ListN.{drop}
use Rattle.texts.specs.Put.{Rest}
use Rattle.map_spec.specs.Form.{lines}
use Rattle.report.proofs.lines.rows.Given as goal

abbrev pub invariant-loop-k : goal.invariant-loop-k
invariant-loop-k l =
    (l.next ≤ l.at + 11 * (l.k * l.q))
    × Rest l.initial.out l.at (lines l.found l.q (map pos l.list)) l.out l.next (lines (l.found - l.k) l.q (map pos (drop (l.k * l.q) l.list)))
