-- `map_text::lines::read_rows` meets its contract. The lines that are left, after the numbers in the table, come to the same as all of them.
-- Assumes nothing.
use Rattle.std.proofs.Common.{◌≡◌, ◌+◌, ◌*◌, ◌-◌, [], length, drop, take}
use Rattle.map_spec.specs.Reading.{read_rows}
use Rattle.map_text.proofs.lines.read_rows.Given as goal

abbrev pub invariant-loop-i : goal.invariant-loop-i
invariant-loop-i l = record {
  same : length l.coefs ≡ length l.initial.coefs;
  reads : read_rows (l.p - l.i) l.q (l.i + 2) (take (l.i * l.q) l.coefs) (drop l.next l.text) ≡ read_rows l.p l.q 2 [] (drop l.at l.text);
}
