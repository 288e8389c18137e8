-- The rows that find room, from the lengths alone. Assumes nothing.
use Rattle.std.specs.Prelude.{ℕ, ◌*◌, ◌/◌, ◌≤◌, min}
use Rattle.std.proofs.Common.{div-mul-le_self, mul-le-mul_right, arith}
use Rattle.engine_spec.specs.Calls.{row_limit, rows_in}

abbrev pub basis_rows : (q basis sizes : ℕ) → ℕ
basis_rows q basis sizes = min (rows_in q basis) sizes

abbrev pub stage_rows : (q table values words degrees marks mothers : ℕ) → ℕ
stage_rows q table values words degrees marks mothers =
    min (min (min (rows_in q table) values) (min words degrees)) (min marks mothers)

rows_fit : (q numbers rows : ℕ) → rows ≤ rows_in q numbers → rows * q ≤ numbers
rows_fit q numbers rows l = omega (arith, div-mul-le_self numbers q, mul-le-mul_right q few)
  where
    few : rows ≤ numbers / q
    few = omega arith

pub basis_fits : (q basis sizes : ℕ) → basis_rows q basis sizes * q ≤ basis
basis_fits q basis sizes = rows_fit q basis (basis_rows q basis sizes) (omega arith)

-- in what is lent to a stage there is room for so many rows
pub record StageFits (q room table values words degrees marks mothers : ℕ) : Type 0 where
  pub rows : room * q ≤ table
  pub valued : room ≤ values
  pub worded : room ≤ words
  pub measured : room ≤ degrees
  pub marked : room ≤ marks
  pub mothered : room ≤ mothers
  pub few : room ≤ 1000000000

pub stage_fits : (q table values words degrees marks mothers : ℕ)
    → StageFits q (stage_rows q table values words degrees marks mothers) table values words degrees marks mothers
stage_fits q table values words degrees marks mothers =
    record {
      rows = rows_fit q table (stage_rows q table values words degrees marks mothers) (low (rows_in q table) values words degrees marks mothers).0;
      valued = (low (rows_in q table) values words degrees marks mothers).1;
      worded = (low (rows_in q table) values words degrees marks mothers).2;
      measured = (low (rows_in q table) values words degrees marks mothers).3;
      marked = (low (rows_in q table) values words degrees marks mothers).4;
      mothered = (low (rows_in q table) values words degrees marks mothers).5;
      few = capped (table / q) values words degrees marks mothers;
    }
  where
    low : (a b c d e f : ℕ) → let m = min (min (min a b) (min c d)) (min e f) in (m ≤ a) × (m ≤ b) × (m ≤ c) × (m ≤ d) × (m ≤ e) × (m ≤ f)
    low a b c d e f = (omega arith, omega arith, omega arith, omega arith, omega arith, omega arith)

    capped : (a b c d e f : ℕ) → min (min (min (min a row_limit) b) (min c d)) (min e f) ≤ 1000000000
    capped a b c d e f = omega arith

pub basis_few : (q basis sizes : ℕ) → (basis_rows q basis sizes ≤ sizes) × (basis_rows q basis sizes ≤ 1000000000)
basis_few q basis sizes = (omega arith, omega arith)
