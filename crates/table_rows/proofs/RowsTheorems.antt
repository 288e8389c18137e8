-- Theorems about what specs/Rows.antt defines. Assumes nothing.
use Rattle.std.specs.Prelude.{List, ℕ, ◌+◌, ◌*◌, ◌-◌, ◌/◌, ◌≤◌, ◌<◌, length, get_or, set, take, drop}
use Rattle.std.proofs.Common.{◌∙◌, mul-le-mul_right, div-mul-le_self, arith, get_or-take, get_or-drop, get_or-set_same, get_or-set_other}
use Rattle.std.proofs.Math.Decide.{ℕ_discrete}
use Rattle.laws.proofs.TableLaws.{row_fits}
use Rattle.table_rows.specs.Rows.{Holds}

-- one more number copied
pub holds_more : {j : ℕ} {t table : List ℕ} {base : ℕ} → j < length t → Holds j t table base → Holds (j + 1) (set t j (get_or table (base + j) 0)) table base
holds_more {j} {t} {table} {base} l h =
    record {
      same = λ i k. elim (ℕ_discrete i j) [
        | yes e ↦ rw e (get_or-set_same t j (get_or table (base + j) 0) 0 l)
        | no ne ↦ get_or-set_other t j i (get_or table (base + j) 0) 0 ne ∙ h.same i (omega arith)
      ];
    }

-- the part of a table from place base on holds it too
pub part_holds : (w : ℕ) (table : List ℕ) (base : ℕ) → base + w ≤ length table → Holds w (take (length table - base) (drop base table)) table base
part_holds w table base room =
    record { same = λ j l. get_or-take (length table - base) (drop base table) j 0 (omega arith) ∙ get_or-drop base table j 0 }

-- ---- rows of a list: a table of n numbers holds as many of q as its capacity

pub room_fits : (q n k : ℕ) → k < n / q → k * q + q ≤ n
room_fits q n k l = omega (arith, row_fits q k (n / q) l, div-mul-le_self n q)

pub rows_fit : (q n k : ℕ) → k ≤ n / q → k * q ≤ n
rows_fit q n k l = omega (arith, mul-le-mul_right q l, div-mul-le_self n q)
