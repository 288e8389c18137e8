-- `equation_read::equation::write_row` meets its contract. Assumes nothing.
use Rattle.std.proofs.Common.{◌≡◌, ◌<◌, ℕ, suc, pos, length, get_or}
use Rattle.equation_read.proofs.equation.write_row.Given as goal

abbrev pub invariant-loop-i : goal.invariant-loop-i
invariant-loop-i l = record {
  same : length l.row ≡ length l.initial.row;
  written : (j : ℕ) → j < l.i → get_or l.row j (pos 0) ≡ get_or l.totals (suc j) (pos 0);
}
