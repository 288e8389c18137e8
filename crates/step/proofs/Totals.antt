-- The sum of a child is its parent's and 1 more. Assumes nothing.
use Rattle.std.specs.Prelude.{◌≡◌, ◌≢◌, List, ℕ, ◌+◌, ◌*◌, ◌≤◌, ◌<◌, length, set}
use Rattle.std.proofs.Common.{sym, ◌∙◌, arith, length-set, get_or-set_same, get_or-set_other}
use Rattle.std.proofs.Math.Decide.{ℕ_discrete}
use Rattle.linear.specs.Tuples.{raise, total, unit}
use Rattle.linear.specs.TupleLaws.{total_sum}
use Rattle.linear.proofs.TupleLaws.{total_most, total_same, total_unit}
use Rattle.definitions.specs.System.{most_component, most_unknowns}
use Rattle.definitions.specs.Tables.{at, write_row}
use Rattle.laws.proofs.TableLaws.{row_other, row_tuple}
use Rattle.products.specs.Totals.{Totals}
use Rattle.table_rows.specs.Rows.{Limited}

total_raise : (x : ℕ → ℕ) (i q : ℕ) → i < q → total (raise x i) q ≡ total x q + 1
total_raise x i q l = omega (arith, total_sum (raise x i) x (unit i) q (λ j _. omega arith), total_unit i q l)

-- the row at n becomes a child of x: its sum is written, and the other rows keep theirs
pub totals_row : {q : ℕ} (x : ℕ → ℕ) {stack : List ℕ} {height height' n : ℕ} {sums : List ℕ} {sum : ℕ} → ((k : ℕ) → k < height' → k ≢ n → k < height) → n < 16
    → (i : ℕ) → i < q → (marks : ℕ) → n * (q + 1) + (q + 1) ≤ length stack → sum ≡ total x q → Totals q stack height sums
    → Totals q (write_row q stack n (raise x i) marks) height' (set sums n (sum + 1))
totals_row {q} x {stack} {height} {height'} {n} {sums} {sum} others few i l marks room e d =
    record {
      size = length-set sums n (sum + 1) ∙ d.size;
      levels = λ k h. elim (ℕ_discrete k n) [
        | yes is ↦ rw is
            (get_or-set_same sums n (sum + 1) 0 (omega (arith, d.size))
            ∙ omega (
              arith,
              e,
              total_raise x i q l,
              total_same (at (write_row q stack n (raise x i) marks) (q + 1) n) (raise x i) q (λ j u. row_tuple q stack n (raise x i) marks room j u),
            ))
        | no ne ↦
            get_or-set_other sums n k (sum + 1) 0 ne
            ∙ d.levels k (others k h ne)
            ∙ total_same _ _ q (λ j u. sym (row_other q stack n (raise x i) marks k j (omega arith) (omega arith)))
      ];
    }

-- a sum fits
pub total_fits : {q : ℕ} {x : ℕ → ℕ} → q ≤ most_unknowns → Limited q x → total x q ≤ 16000000
total_fits {q} {x} few s = omega (arith, few, total_most x q most_component s.at_most)
