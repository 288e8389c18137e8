-- `map_text::lines::read_line` meets its contract. What is left to read, after the numbers in the table, comes to the same as at first.
-- Assumes nothing.
use Rattle.std.proofs.Common.{◌≡◌, ◌+◌, ◌-◌, length, drop, take}
use Rattle.map_spec.specs.Reading.{read_line}
use Rattle.map_text.proofs.lines.read_line.Given as goal

abbrev pub invariant-loop-i : goal.invariant-loop-i
invariant-loop-i l = record {
  same : length l.coefs ≡ length l.initial.coefs;
  reads : read_line (l.k - l.i) (take (l.base + l.i) l.coefs) (drop l.next l.text) ≡ read_line l.k (take l.base l.initial.coefs) (drop l.at l.text);
}
