-- `rows::write_row` meets its contract. The components passed have been written. Assumes nothing.
use Rattle.std.proofs.Common.{◌≡◌, ℕ, ◌<◌, length}
use Rattle.definitions.specs.Tables.{write_to}
use Rattle.engine_rows.proofs.rows.write_row.Given as goal

abbrev pub invariant-loop-j : goal.invariant-loop-j
invariant-loop-j g l =
    (length l.table ≡ length l.initial.table)
    × ((x : ℕ → ℕ) → ((j y : ℕ) → j < l.q → goal.F-post g l.component j y → y ≡ x j) → l.table ≡ write_to l.j l.initial.table l.base x)
