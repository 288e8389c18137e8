-- `equation_systems::lines::read_lines` meets its contract. The lines that are left, after the rows in the tables, come to the same as all of them.
-- Assumes nothing.
use Rattle.std.proofs.Common.{◌≡◌, ◌≤◌, ◌+◌, ◌*◌, ◌-◌, [], length, drop, take}
use Rattle.equation_spec.specs.Systems.{read_lines}
use Rattle.equation_systems.proofs.lines.read_lines.Given as goal

abbrev pub invariant-loop-i : goal.invariant-loop-i
invariant-loop-i l = record {
  coefs : length l.coefs ≡ length l.initial.coefs;
  rights : length l.rights ≡ length l.initial.rights;
  inside : l.at ≤ length l.text;
  reads : read_lines (l.p - l.i) l.q (l.i + 1) (take (l.i * l.q) l.coefs) (take l.i l.rights) (drop l.at l.text) ≡ read_lines l.p l.q 1 [] [] l.text;
}
