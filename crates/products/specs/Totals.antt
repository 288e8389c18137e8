-- The sums of components kept beside the stack, one a level. Assumes nothing.
use Rattle.std.specs.Prelude.{◌≡◌, List, ℕ, ◌+◌, ◌≤◌, ◌<◌, length, get_or, set}
use Rattle.std.proofs.Common.{◌∙◌, arith, length-set, get_or-set_same, get_or-set_other}
use Rattle.std.proofs.Math.Decide.{ℕ_discrete}
use Rattle.linear.specs.Tuples.{total}
use Rattle.linear.proofs.TupleLaws.{total_most}
use Rattle.definitions.specs.System.{most_component}
use Rattle.definitions.specs.Tables.{at}

-- level k of `sums` holds the sum of the tuple in row k of the stack
pub record Totals (q : ℕ) (stack : List ℕ) (height : ℕ) (sums : List ℕ) : Type 0 where
  pub size : length sums ≡ 16
  pub levels : (k : ℕ) → k < height → get_or sums k 0 ≡ total (at stack (q + 1) k) q

pub totals_less : {q : ℕ} {stack : List ℕ} {height n : ℕ} {sums : List ℕ} → Totals q stack height sums → n ≤ height → Totals q stack n sums
totals_less d h = record { size = d.size; levels = λ k l. d.levels k (omega arith) }

-- ---- the rows that a call finds, one after the other

pub totals_none : (q : ℕ) (stack sums : List ℕ) → length sums ≡ 16 → Totals q stack 0 sums
totals_none q stack sums e = record { size = e; levels = λ k l. absurd (omega arith) }

pub totals_next : {q : ℕ} {stack sums : List ℕ} {k sum : ℕ} → k < 16 → sum ≡ total (at stack (q + 1) k) q → Totals q stack k sums
    → Totals q stack (k + 1) (set sums k sum)
totals_next {q} {stack} {sums} {k} {sum} l e t =
    record {
      size = length-set sums k sum ∙ t.size;
      levels = λ n h. elim (ℕ_discrete n k) [
        | yes is ↦ rw is (get_or-set_same sums k sum 0 (omega (arith, t.size)) ∙ e)
        | no ne ↦ get_or-set_other sums k n sum 0 ne ∙ t.levels n (omega arith)
      ];
    }

pub total_room : (x : ℕ → ℕ) (j : ℕ) → j ≤ 16 → ((i : ℕ) → i < j → x i ≤ most_component) → total x j ≤ 16000000
total_room x j few small = omega (arith, total_most x j most_component small)
