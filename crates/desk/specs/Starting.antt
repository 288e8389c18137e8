-- The rows of a start, as code writes them one after the other. Assumes nothing.
use Rattle.std.specs.Prelude.{◌≡◌, refl, List, ℕ, ◌+◌, ◌*◌, ◌-◌, ◌^◌, ◌%◌, ◌<◌, length}
use Rattle.std.proofs.Common.{sym, ◌∙◌, ap₂, add-one, arith}
use Rattle.linear.specs.Tests.{count_to}
use Rattle.definitions.specs.Tables.{at, write_to}
use Rattle.laws.specs.Pack.{pack_to}
use Rattle.laws.proofs.Pack.{pack_length}
use Rattle.laws.proofs.MarkLaws.{shift_one_wide}
use Rattle.table_rows.specs.Rows.{Holds, tuple}
use Rattle.desk_spec.specs.Desks.{always, desk_row}
use Rattle.desk_spec.proofs.Rows.{all_counted}
use Rattle.desk_rows.specs.Rows.{row_alike}

abbrev pub start_to : (k q : ℕ) (generators stack : List ℕ) → List ℕ
start_to k q generators stack = pack_to k (q + 2) stack 0 always (λ k. desk_row q (at generators q k) (2 ^ k - 1))

pub start_length : (k q : ℕ) (generators stack : List ℕ) → length (start_to k q generators stack) ≡ length stack
start_length k q generators stack = pack_length (q + 2) stack 0 always _ k

pub start_none : (q : ℕ) (generators stack : List ℕ) → stack ≡ start_to 0 q generators stack
unfolding pack_to
start_none q generators stack = refl

start_more : (k q : ℕ) (generators stack : List ℕ)
    → start_to (k + 1) q generators stack ≡ write_to (q + 2) (start_to k q generators stack) (k * (q + 2)) (desk_row q (at generators q k) (2 ^ k - 1))
unfolding pack_to
start_more k q generators stack = let place : 0 + count_to k always ≡ k = omega (arith, all_counted k) in rw (add-one k, place)

pub start_next : (k q : ℕ) (generators stack₀ : List ℕ) {stack after t : List ℕ} {marks : ℕ} → stack ≡ start_to k q generators stack₀ → marks ≡ 2 ^ k - 1
    → Holds q t generators (k * q)
    → after ≡ write_to (q + 2) stack (k * (q + 2)) (desk_row q (tuple t) marks) → after ≡ start_to (k + 1) q generators stack₀
start_next k q generators stack₀ {stack} {after} {t} {marks} e m h w =
    w
    ∙ row_alike q stack (k * (q + 2)) {x = tuple t} {y = at generators q k} marks h.same
    ∙ ap₂ (λ x y. write_to (q + 2) x (k * (q + 2)) (desk_row q (at generators q k) y)) e m
    ∙ sym (start_more k q generators stack₀)

-- the marks of the generators before k, as the machine has them
pub start_marks : (k : ℕ) → k < 64 → (1 * 2 ^ k) % 18446744073709551616 - 1 ≡ 2 ^ k - 1
start_marks k l = rw (shift_one_wide k l)
