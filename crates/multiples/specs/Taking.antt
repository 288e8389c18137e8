-- Rows taken off a tuple that a slice holds: what each way through the code comes to. Assumes nothing.
use Rattle.std.specs.Prelude.{List, ◌≡◌, length, get_or}
use Prim.Native.Nat.{ℕ, ◌+◌, ◌*◌, ◌-◌, ◌≤◌, ◌<◌}
use Rattle.linear.specs.Tuples.{Same}
use Rattle.definitions.specs.Tables.{at}
use Rattle.table_rows.specs.Rows.{tuple}
use Rattle.multiples_spec.specs.Parts.{left_over, write_times}

-- the row that stands in a table from place base
abbrev pub row_at : List ℕ → ℕ → ℕ → ℕ
row_at table base j = get_or table (base + j) 0

-- ---- one row

-- row r goes n times into x
pub record Goes (q n : ℕ) (r x : ℕ → ℕ) : Type 0 where
  pub fits : (j : ℕ) → j < q → n * r j ≤ x j

-- the first j components of the row taken off n times, the others kept
pub record Less (j n : ℕ) (table : List ℕ) (base : ℕ) (rest₀ rest : List ℕ) : Type 0 where
  pub long : length rest ≡ length rest₀
  pub less : (i : ℕ) → i < j → get_or rest i 0 ≡ get_or rest₀ i 0 - n * get_or table (base + i) 0
  pub kept : (i : ℕ) → j ≤ i → get_or rest i 0 ≡ get_or rest₀ i 0

-- ---- the rows of a list

-- what is left after the first n rows
pub record Left (q n : ℕ) (table rest₀ rest : List ℕ) : Type 0 where
  pub left : Same q (tuple rest) (left_over q n (at table q) (tuple rest₀))

-- the rows from i on have been taken: the first i are left to take, of what is in `rest` now
pub record Taking (q found : ℕ) (table rest₀ times₀ rest times : List ℕ) (i : ℕ) : Type 0 where
  pub few : i ≤ found
  pub long : length rest ≡ length rest₀
  pub many : length times ≡ length times₀
  pub left : Same q (left_over q i (at table q) (tuple rest)) (left_over q found (at table q) (tuple rest₀))
  pub taken : write_times q i (at table q) (tuple rest) times ≡ write_times q found (at table q) (tuple rest₀) times₀
