-- A row with a component written over. Assumes nothing.
use Rattle.std.specs.Prelude.{◌≡◌, List, ℕ, zero, suc, ◌+◌, ◌<◌, set}
use Rattle.std.proofs.Common.{ap₂, ◌∙◌, inl, inr, arith, set-set}
use Rattle.std.proofs.lemmas.List.{set_comm}
use Rattle.linear.specs.Cases.{below_suc}
use Rattle.linear.specs.Tuples.{raise}
use Rattle.linear.specs.TupleLaws.{unit_same, unit_other}
use Rattle.definitions.specs.Tables.{write_to}
use Rattle.laws.proofs.TableLaws.{write_same}

-- a tuple written, and then component i written over with one more
pub write_raise : (n : ℕ) (table : List ℕ) (base : ℕ) (x : ℕ → ℕ) (i : ℕ) → i < n
    → set (write_to n table base x) (base + i) (x i + 1) ≡ write_to n table base (raise x i)
unfolding write_to
write_raise zero table base x i l = absurd (omega arith)
write_raise (suc n) table base x i l =
    elim (below_suc l) [
      | inl k ↦
          set_comm (write_to n table base x) (base + n) (base + i) (x n) (x i + 1) (omega arith)
          ∙ ap₂ (λ t y. set t (base + n) y) (write_raise n table base x i k) (omega (arith, unit_other i n (omega arith)))
      | inr e ↦ rw e
          (set-set (write_to n table base x) (base + n) (x n) (x n + 1)
          ∙ ap₂ (λ t y. set t (base + n) y) (write_same n table base (λ j h. omega (arith, unit_other n j (omega arith)))) (omega (arith, unit_same n)))
    ]
