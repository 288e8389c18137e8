-- What listing a solution comes to. Assumes nothing.
use Rattle.std.specs.Prelude.{◌≡◌, List, ℕ, ◌+◌, ◌*◌, ◌/◌, ◌≤◌, ◌<◌, length, Result, Ok, Err}
use Rattle.std.proofs.Common.{◌∙◌, ap, ap₂, div-mul-le_self, le-mul_of_pos_right, mul-le-mul_right, arith}
use Rattle.linear.proofs.TestLaws.{count_le}
use Rattle.linear.specs.Tests.{count_to}
use Rattle.definitions.specs.Tables.{at, capacity, write_to}
use Rattle.laws.proofs.TableLaws.{row_fits}
use Rattle.laws.proofs.Again.{swept_length}
use Rattle.laws.specs.Sweep.{keeps, swept_to}
use Rattle.table_rows.specs.Keeping.{Kept}
use Rattle.calls.specs.declared.Refusal.{Refusal}
use Rattle.calls.specs.declared.Refusal.TheVariants.{ListFull}

-- the rows that a sweep leaves, and their number
abbrev pub swept_list : ℕ → ℕ → List ℕ → List ℕ
swept_list q found list = swept_to found q list (keeps q found (at list q))

abbrev pub swept_count : ℕ → ℕ → List ℕ → ℕ
swept_count q found list = count_to found (keeps q found (at list q))

-- the answer and the list afterwards: a list with room takes x as its next row; of a full one the rows that a sweep leaves are counted, and then it takes x, or
-- there is no room
pub data Enlisted (q found : ℕ) (x : ℕ → ℕ) (list after : List ℕ) (answer : Result ℕ Refusal) : Type 0 where
  roomy : found < capacity q list → answer ≡ Ok (found + 1) → after ≡ write_to q list (found * q) x → Enlisted q found x list after answer
  freed : capacity q list ≤ found → swept_count q found list < capacity q list → answer ≡ Ok (swept_count q found list + 1)
      → after ≡ write_to q (swept_list q found list) (swept_count q found list * q) x → Enlisted q found x list after answer
  full : capacity q list ≤ found → capacity q list ≤ swept_count q found list → answer ≡ Err ListFull → after ≡ swept_list q found list
      → Enlisted q found x list after answer

-- ---- places

pub capacity_small : (q : ℕ) (list : List ℕ) → 0 < q → capacity q list ≤ length list
capacity_small q list some = omega (arith, div-mul-le_self (length list) q, le-mul_of_pos_right (length list / q) some)

pub next_fits : (q k : ℕ) (list : List ℕ) → k < capacity q list → k * q + q ≤ length list
next_fits q k list l = omega (arith, div-mul-le_self (length list) q, row_fits q k (length list / q) l)

module _ {q found : ℕ} {list after : List ℕ} {left : ℕ} (k : Kept q found (keeps q found (at list q)) list after left) where
  pub kept_size : length after ≡ length list
  kept_size = ap length k.rows ∙ swept_length q found list

  pub kept_place : found * q ≤ length list → left * q ≤ length list
  kept_place l = rw k.counted (omega (arith, mul-le-mul_right q (count_le (keeps q found (at list q)) found)))

-- room that a sweep has made
pub freed_listed : {q found : ℕ} {x : ℕ → ℕ} {list after swept : List ℕ} {left : ℕ} → capacity q list ≤ found
    → Kept q found (keeps q found (at list q)) list swept left → left < capacity q list
    → after ≡ write_to q swept (left * q) x → Enlisted q found x list after (Ok (left + 1))
freed_listed {q} {found} {x} l k room w =
    freed l (rw k.counted at room) (ap (λ n. Ok (n + 1)) k.counted) (w ∙ ap₂ (λ t n. write_to q t (n * q) x) k.rows k.counted)
