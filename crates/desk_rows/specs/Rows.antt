-- What the contracts on rows cite, and one turn of their loops. Assumes nothing.
use Rattle.std.specs.Prelude.{◌≡◌, refl, Bool, true, false, cond, List, ℕ, suc, ◌+◌, ◌^◌, ◌/◌, ◌%◌, ◌≤◌, ◌<◌, T, eqb, ltb, length, set}
use Rattle.std.proofs.Common.{mul-le-mul_right, add-one, arith, ltb→lt}
use Rattle.linear.proofs.TupleLaws.{total_most}
use Rattle.linear.specs.Tuples.{Same, total}
use Rattle.definitions.specs.System.{most_component}
use Rattle.definitions.specs.Tables.{write_to}
use Rattle.laws.proofs.TableLaws.{write_same}
use Rattle.table_rows.specs.Rows.{tuple}
use Rattle.table_rows.specs.Small.{row_at}
use Rattle.desk_spec.specs.Desks.{desk_row, word}
use Rattle.desk_spec.proofs.Rows.{row_high, row_low, row_tuple}

pub record SmallTuple (q : ℕ) (t : List ℕ) : Type 0 where
  pub whole : q ≤ length t
  pub small : (j : ℕ) → j < q → tuple t j ≤ most_component

-- z holds the sum of t and the tuple that stands in a table from place base
pub record Raised (q : ℕ) (z t table : List ℕ) (base : ℕ) : Type 0 where
  pub sums : (j : ℕ) → j < q → tuple z j ≡ tuple t j + row_at table base j

-- ---- a row with its marks

-- the q components, then the two numbers of the marks
pub row_numbers : (q : ℕ) (table : List ℕ) (base : ℕ) (x : ℕ → ℕ) (marks : ℕ)
    → set (set (write_to q table base x) (base + q) (marks % word)) (base + (q + 1)) (marks / word) ≡ write_to (q + 2) table base (desk_row q x marks)
row_numbers q table base x marks =
    let two : q + 2 ≡ suc (suc q) = omega arith in
    let one : q + 1 ≡ suc q = omega arith in
    let low = row_low q x marks in
    let high = rw one at (row_high q x marks) in
    let same = write_same q table base {x = desk_row q x marks} {y = x} (row_tuple q x marks) in
    rw (two, one) (unfold write_to in (rw (low, high, same)))

-- a row depends on the q components alone
row_agrees : (q : ℕ) {x y : ℕ → ℕ} (marks : ℕ) → Same q x y → (j : ℕ) → desk_row q x marks j ≡ desk_row q y marks j
unfolding desk_row
row_agrees q {x} {y} marks e j = pick (ltb j q) (λ h. e j (ltb→lt j q h))
  where
    pick : (b : Bool) → (T b → x j ≡ y j)
        → cond b (x j) (cond (eqb j q) (marks % word) (marks / word)) ≡ cond b (y j) (cond (eqb j q) (marks % word) (marks / word))
    pick true h = h tt
    pick false h = refl

pub row_alike : (q : ℕ) (table : List ℕ) (base : ℕ) {x y : ℕ → ℕ} (marks : ℕ) → Same q x y
    → write_to (q + 2) table base (desk_row q x marks) ≡ write_to (q + 2) table base (desk_row q y marks)
row_alike q table base marks e = write_same (q + 2) table base (λ j l. row_agrees q marks e j)

-- ---- the sum of the components

pub total_next : (x : ℕ → ℕ) (j : ℕ) → total x (j + 1) ≡ total x j + x j
unfolding total
total_next x j = rw (add-one j)

pub total_room : {q : ℕ} {t : List ℕ} → SmallTuple q t → q ≤ 16 → (j : ℕ) → j < q → total (tuple t) j + tuple t j < 2 ^ 64
total_room {q} {t} s few j l =
    omega (arith, total_most (tuple t) j most_component (λ i k. s.small i (omega arith)), s.small j l, mul-le-mul_right most_component (few_of))
  where
    few_of : j ≤ 16
    few_of = omega arith
