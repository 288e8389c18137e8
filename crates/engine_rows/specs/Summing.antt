-- One turn of the loops over the components of rows and of their sums. Assumes nothing.
use Rattle.std.specs.Prelude.{◌≡◌, List, ℕ, ◌+◌, ◌*◌, ◌≤◌, ◌<◌, get_or}
use Rattle.std.proofs.Common.{inl, inr, arith}
use Rattle.definitions.specs.Tables.{write_to}
use Rattle.laws.proofs.TableLaws.{row_fits, write_outside}
use Rattle.engine_spec.specs.Beside.{SmallRow, SmallTable}

-- ---- writing behind what is read, and ahead of it

pub read_before : (x : ℕ → ℕ) (table : List ℕ) (from to j q : ℕ) → from + q ≤ to → j < q
    → get_or (write_to j table to x) (from + j) 0 ≡ get_or table (from + j) 0
read_before x table from to j q l jq = write_outside x table to j (from + j) (inl (omega arith))

pub read_ahead : (x : ℕ → ℕ) (table : List ℕ) (from to j : ℕ) → to ≤ from → get_or (write_to j table to x) (from + j) 0 ≡ get_or table (from + j) 0
read_ahead x table from to j l = write_outside x table to j (from + j) (inr (omega arith))

-- row i of a table within the component limit
pub table_row : {q n : ℕ} {table : List ℕ} → SmallTable q n table → (i : ℕ) → i < n → SmallRow q table (i * q)
table_row {q} {n} s i l = record { whole = omega (arith, s.whole, row_fits q i n l); small = λ j jq. s.small i j l jq }
