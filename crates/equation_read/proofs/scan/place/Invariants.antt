-- `equation_read::scan::place` meets its contract. The place from here on is the place from the beginning on. Assumes nothing.
use Rattle.std.proofs.Common.{◌≡◌, ◌≤◌, ◌+◌, drop}
use Rattle.equation_spec.specs.Scan.{place_from, place}
use Rattle.equation_read.specs.Phases.{phase_of}
use Rattle.equation_read.proofs.scan.place.Given as goal

abbrev pub invariant-loop-i : goal.invariant-loop-i
invariant-loop-i l = record {
  opened : l.at.opened ≤ l.i;
  comes : place_from l.q (l.i + 1) (phase_of l.at.phase) l.at.opened l.at.right (drop l.i l.text) ≡ place l.q l.text;
}
