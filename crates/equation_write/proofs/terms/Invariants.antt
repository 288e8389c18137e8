-- `equation_write::terms` meets its contract. Assumes nothing.
use Rattle.std.proofs.Common.{◌+◌, ◌*◌, ◌≤◌, drop}
use Rattle.texts.specs.Put.{Rest}
use Rattle.equation_spec.specs.Writing.{terms}
use Rattle.equation_write.specs.Texts.{rest_text}
use Rattle.equation_write.proofs.terms.Given as goal

abbrev pub invariant-loop-i : goal.invariant-loop-i
invariant-loop-i l = record {
  rest : Rest l.initial.out 0 (terms 1 l.row) l.out l.next (rest_text l.first (l.i + 1) (drop l.i l.row));
  short : l.next ≤ 12 * l.i;
}
