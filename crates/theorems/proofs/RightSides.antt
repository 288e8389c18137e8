-- What a capped run is to list, in the words of the system without the extra unknown: at 0 its minimal solutions, at 1 the minimal tuples that meet the right
-- sides. Assumes nothing.
use Rattle.std.specs.Prelude.{◌≡◌, refl, ◌⊎◌, ℕ, zero, suc, ◌-◌, ◌≤◌, ◌<◌, ℤ}
use Rattle.std.proofs.Math.Path.{sym}
use Rattle.std.proofs.Common.{◌∙◌, inl, inr, arith}
use Rattle.std.proofs.Math.Decide.{ℕ_discrete}
use Rattle.std.proofs.Math.IntN.{pos}
use Rattle.linear.proofs.RightSides.{Extends, at_0_solution, at_1_solution, meets_less, solution_at_0, solution_at_1}
use Rattle.linear.proofs.SystemLaws.{inner_zero}
use Rattle.linear.specs.Systems.{Meets, SolutionIn, value}
use Rattle.linear.proofs.TupleLaws.{least, minimal_from}
use Rattle.linear.specs.Tuples.{AtOrBelow, Minimal, Nonzero, Same, put, rest}
use Rattle.theorems.specs.Basis.{Basis, Task, Wanted}
use Rattle.theorems.specs.Starts.{capped_task}

-- ---- tuples with a component put before them

pub put_above : (q c : ℕ) (x t : ℕ → ℕ) → c ≤ t 0 → AtOrBelow q x (rest t) → AtOrBelow (suc q) (put c x) t
put_above q c x t h b zero l = h
put_above q c x t h b (suc j) l = b j (omega arith)

pub above_put : (q c : ℕ) (x t : ℕ → ℕ) → t 0 ≤ c → AtOrBelow q (rest t) x → AtOrBelow (suc q) t (put c x)
above_put q c x t h b zero l = h
above_put q c x t h b (suc j) l = b j (omega arith)

pub same_put : (q c : ℕ) (x t : ℕ → ℕ) → t 0 ≡ c → Same q (rest t) x → Same (suc q) t (put c x)
same_put q c x t h e zero l = h
same_put q c x t h e (suc j) l = e j (omega arith)

some_rest : (q : ℕ) (t : ℕ → ℕ) → t 0 ≡ 0 → Nonzero (suc q) t → Nonzero q (rest t)
some_rest q t z (zero, l, h) = absurd (omega arith)
some_rest q t z (suc j, l, h) = (j, omega arith, h)

rest_some : (q : ℕ) (t : ℕ → ℕ) → Nonzero q (rest t) → Nonzero (suc q) t
rest_some q t (j, l, h) = (suc j, omega arith, h)

module _ {p q : ℕ} {a : ℕ → ℕ → ℤ} {b : ℕ → ℤ} {e : ℕ → ℕ → ℤ} (x : Extends p q a b e) where
  -- the capped run's task
  abbrev pub extended_task : Task
  extended_task = capped_task p (suc q) e

  abbrev pub Plain : (ℕ → ℕ) → Type 0
  Plain = SolutionIn p q a (Nonzero q)

  wanted_at_0 : (t : ℕ → ℕ) → t 0 ≡ 0 → Plain (rest t) → Wanted extended_task t
  wanted_at_0 t z w = record { solution = at_0_solution x t z w.solution; admitted = record { some = rest_some q t w.admitted; first = omega arith } }

  at_0_wanted : (t : ℕ → ℕ) → t 0 ≡ 0 → Wanted extended_task t → Plain (rest t)
  at_0_wanted t z w = record { solution = solution_at_0 x t z w.solution; admitted = some_rest q t z w.admitted.some }

  wanted_at_1 : (t : ℕ → ℕ) → t 0 ≡ 1 → Meets p q a b (rest t) → Wanted extended_task t
  wanted_at_1 t z m = record { solution = at_1_solution x t z m; admitted = record { some = (0, omega arith, omega arith); first = omega arith } }

  zero_or_one : (t : ℕ → ℕ) → t 0 ≤ 1 → (t 0 ≡ 0) ⊎ (t 0 ≡ 1)
  zero_or_one t h = elim (ℕ_discrete (t 0) 0) [ yes z ↦ inl z | no ne ↦ inr (omega arith) ]

  -- ---- what is listed at 0

  pub basis_at_0 : (t : ℕ → ℕ) → t 0 ≡ 0 → Basis extended_task t → Minimal q Plain (rest t)
  basis_at_0 t z m =
      minimal_from (at_0_wanted t z m.holds)
      (λ s w under j l. least m (put 0 s) (wanted_at_0 (put 0 s) refl w) (put_above q 0 s t (omega arith) under) (suc j) (omega arith))

  pub at_0_basis : (s : ℕ → ℕ) → Minimal q Plain s → Basis extended_task (put 0 s)
  at_0_basis s m =
      minimal_from (wanted_at_0 (put 0 s) refl m.holds)
      (λ t w under.
      let z : t 0 ≡ 0 = omega (arith, under 0 (omega arith)) in
      same_put q 0 s t z (least m (rest t) (at_0_wanted t z w) (λ j l. under (suc j) (omega arith))))

  -- ---- what is listed at 1

  pub basis_at_1 : (t : ℕ → ℕ) → t 0 ≡ 1 → Basis extended_task t → Minimal q (Meets p q a b) (rest t)
  basis_at_1 t z m =
      minimal_from (solution_at_1 x t z m.holds.solution)
      (λ s w under j l. least m (put 1 s) (wanted_at_1 (put 1 s) refl w) (put_above q 1 s t (omega arith) under) (suc j) (omega arith))

  -- a solution of the plain system below a minimal tuple that meets the right sides would leave a smaller such tuple
  no_plain : (s t : ℕ → ℕ) → Minimal q (Meets p q a b) s → Plain t → AtOrBelow q t s → ⊥
  no_plain s t m w under =
      let same = least m (λ j. s j - t j) (meets_less p q a b s t m.holds w.solution under) (λ j l. omega arith) in
      let (j, l, some) = w.admitted in
      omega (arith, same j l, under j l)

  pub at_1_basis : (s : ℕ → ℕ) → Minimal q (Meets p q a b) s → Basis extended_task (put 1 s)
  at_1_basis s m =
      minimal_from (wanted_at_1 (put 1 s) refl m.holds)
      (λ t w under.
      elim (zero_or_one t w.admitted.first) [
        | inl z ↦ absurd (no_plain s (rest t) m (at_0_wanted t z w) (λ j l. under (suc j) (omega arith)))
        | inr z ↦ same_put q 1 s t z (least m (rest t) (solution_at_1 x t z w.solution) (λ j l. under (suc j) (omega arith)))
      ])

-- "zero if all of them are zero": where every right side is 0, the minimal tuple that meets them is 0, and no other
module _ (p q : ℕ) (a : ℕ → ℕ → ℤ) (b : ℕ → ℤ) (zeros : (i : ℕ) → i < p → b i ≡ pos 0) where
  zero_meets : Meets p q a b (λ j. 0)
  unfolding value
  zero_meets i l = inner_zero q (a i) (λ j. pos 0) (λ j k. refl) ∙ sym (zeros i l)

  pub zero_minimal : Minimal q (Meets p q a b) (λ j. 0)
  zero_minimal = minimal_from zero_meets (λ s w under j l. omega (arith, under j l))

  pub only_zero : (t : ℕ → ℕ) → Minimal q (Meets p q a b) t → Same q (λ j. 0) t
  only_zero t m = least m (λ j. 0) zero_meets (λ j l. omega arith)
