-- Theorems about what specs/Done.antt defines. Assumes nothing.
use Rattle.std.specs.Prelude.{◌≡◌, refl, Bool, true, false, cond, ℕ, ◌+◌, ◌^◌, ◌<◌, T, ℤ, pos}
use Rattle.std.proofs.Common.{◌∙◌, inl, inr}
use Rattle.std.proofs.Math.IntN.{zero-*ℤ}
use Rattle.linear.proofs.Sums.{sum_cong, sum_zero}
use Rattle.linear.specs.Systems.{Solution, inner, value}
use Rattle.linear.proofs.TestLaws.{T-dec}
use Rattle.definitions.specs.Tables.{frozen}
use Rattle.laws.proofs.MarkLaws.{frozen_add, frozen_added, frozen_new, frozen_none}
use Rattle.engine_spec.specs.Equations.{Extends}
use Rattle.engine_spec.specs.Done.{among}

-- ---- what its solutions are

value_on : (b : Bool) (c : ℕ → ℤ) (q : ℕ) (x : ℕ → ℕ) → T b → value (λ j. cond b (c j) (pos 0)) q x ≡ value c q x
value_on true c q x h = refl
value_on false c q x h = absurd h

value_off : (b : Bool) (c : ℕ → ℤ) (q : ℕ) (x : ℕ → ℕ) → ¬ (T b) → value (λ j. cond b (c j) (pos 0)) q x ≡ pos 0
unfolding value inner
value_off true c q x h = absurd (h tt)
value_off false c q x h = sum_cong q (λ j l. zero-*ℤ (pos (x j))) ∙ sum_zero q

module _ (p q : ℕ) (a : ℕ → ℕ → ℤ) (done : ℕ) (x : ℕ → ℕ) where
  pub done_solved : Solution p q (among done a) x → (i : ℕ) → i < p → T (frozen done i) → value (a i) q x ≡ pos 0
  done_solved s i l h = rw (value_on (frozen done i) (a i) q x h) at (s i l)

  pub solved_done : ((i : ℕ) → i < p → T (frozen done i) → value (a i) q x ≡ pos 0) → Solution p q (among done a) x
  solved_done s i l =
      elim (T-dec (frozen done i)) [ inl h ↦ rw (value_on (frozen done i) (a i) q x h) (s i l h) | inr h ↦ value_off (frozen done i) (a i) q x h ]

-- none done: every tuple is a solution
pub none_asks : (p q : ℕ) (a : ℕ → ℕ → ℤ) (t : ℕ → ℕ) → Solution p q (among 0 a) t
none_asks p q a t = solved_done p q a 0 t (λ i l h. absurd (frozen_none i h))

-- one equation more
pub done_extends : (p q : ℕ) (a : ℕ → ℕ → ℤ) (done e : ℕ) → e < p → ¬ (T (frozen done e)) → Extends p q (among done a) (among (done + 2 ^ e) a) (a e)
done_extends p q a done e l left =
    record {
      less = λ t s. solved_done p q a done t (λ i il h. done_solved p q a (done + 2 ^ e) t s i il (frozen_added done e i left h));
      meets = λ t s. done_solved p q a (done + 2 ^ e) t s e l (frozen_new done e left);
      more = λ t s z. solved_done p q a (done + 2 ^ e) t (λ i il h. elim (frozen_add done e i left h) [
        | inl old ↦ done_solved p q a done t s i il old
        | inr g ↦ rw g z
      ]);
    }
