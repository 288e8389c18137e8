-- Theorems about what specs/TupleLaws.antt defines. Assumes nothing.
use Rattle.std.specs.Prelude.{◌≡◌, refl, ◌≢◌, ◌⊎◌, ℕ, zero, suc, ◌+◌, ◌*◌, ◌-◌, ◌≤◌, ◌<◌}
use Rattle.std.proofs.Common.{sym, ap, inl, inr, add-one, arith}
use Rattle.std.proofs.Math.Decide.{ℕ_discrete}
use Rattle.linear.specs.Cases.{below_suc}
use Rattle.linear.specs.Tuples.{Same, AtOrBelow, Nonzero, Minimal, total, unit, raise}
use Rattle.linear.specs.TupleLaws.{Raised, total_none, total_sum, unit_other, unit_same}

-- ---- the sum of the components: of equal tuples, of a sum, of zeros, of a unit tuple

-- the sum of the first j components, and one more
pub total_more : (x : ℕ → ℕ) (j : ℕ) {sum : ℕ} → sum ≡ total x j → sum + x j ≡ total x (j + 1)
unfolding total
total_more x j e = rw add-one (omega (arith, e))

pub total_same : (t u : ℕ → ℕ) (q : ℕ) → Same q t u → total t q ≡ total u q
unfolding total
total_same t u zero e = refl
total_same t u (suc q) e = omega (arith, total_same t u q (λ i l. e i (omega arith)), e q (omega arith))

pub total_unit : (j q : ℕ) → j < q → total (unit j) q ≡ 1
unfolding total
total_unit j zero l = omega arith
total_unit j (suc q) l =
    elim (below_suc l) [
      | inl k ↦ omega (arith, total_unit j q k, unit_other j q (omega arith))
      | inr e ↦ omega (arith, total_none (unit j) q (λ i u. unit_other j i (omega arith)), ap (unit j) (sym e), unit_same j)
    ]

pub term_le_total : (t : ℕ → ℕ) (q j : ℕ) → j < q → t j ≤ total t q
unfolding total
term_le_total t zero j l = omega arith
term_le_total t (suc q) j l = elim (below_suc l) [ inl h ↦ omega (arith, term_le_total t q j h) | inr e ↦ rw e (omega arith) ]

pub total_most : (t : ℕ → ℕ) (q B : ℕ) → ((j : ℕ) → j < q → t j ≤ B) → total t q ≤ q * B
unfolding total
total_most t zero B h = omega arith
total_most t (suc q) B h = omega (arith, total_most t q B (λ j l. h j (omega arith)), h q (omega arith))

-- a tuple at or below another that differs somewhere has a smaller sum
pub total_less : (q : ℕ) {s t : ℕ → ℕ} → AtOrBelow q s t → (j : ℕ) → j < q → s j ≢ t j → total s q < total t q
total_less q {s} {t} b j l ne =
    omega (arith, total_sum t s (λ i. t i - s i) q (λ i k. omega (arith, b i k)), term_le_total (λ i. t i - s i) q j l, b j l)

pub total_some : (t : ℕ → ℕ) (q : ℕ) → total t q ≢ 0 → Nonzero q t
unfolding total
total_some t zero ne = absurd (ne refl)
total_some t (suc q) ne =
    elim (ℕ_discrete (t q) 0) [
      | yes e ↦ let (j, l, h) = total_some t q (λ z. ne (omega arith)) in (j, omega arith, h)
      | no n ↦ (q, omega arith, omega arith)
    ]

pub raise_raised : (q : ℕ) (x : ℕ → ℕ) (j : ℕ) → Raised q x j (raise x j)
raise_raised q x j = record { more = omega (arith, unit_same j); kept = λ i l ne. omega (arith, unit_other j i ne) }

module _ {q : ℕ} {x y : ℕ → ℕ} {j : ℕ} (r : Raised q x j y) where
  pub raised_above : AtOrBelow q x y
  raised_above i l = elim (ℕ_discrete i j) [ yes e ↦ rw e (omega (arith, r.more)) | no ne ↦ omega (arith, r.kept i l ne) ]

  -- what is above x and larger at j is above y
  pub raised_below : {t : ℕ → ℕ} → AtOrBelow q x t → x j < t j → AtOrBelow q y t
  raised_below b h i l = elim (ℕ_discrete i j) [ yes e ↦ rw e (omega (arith, r.more)) | no ne ↦ omega (arith, r.kept i l ne, b i l) ]

-- ---- the order

-- two tuples are the same, or differ at a place that can be found
pub differ : (q : ℕ) (s t : ℕ → ℕ) → Same q s t ⊎ ((j : ℕ) × (j < q) × (s j ≢ t j))
differ zero s t = inl (λ j l. absurd (omega arith))
differ (suc q) s t =
    elim (ℕ_discrete (s q) (t q)) [
      | yes e ↦ elim (differ q s t) [
        | inl h ↦ inl (λ j l. elim (below_suc l) [ inl k ↦ h j k | inr g ↦ rw g e ])
        | inr (j, l, ne) ↦ inr (j, omega arith, ne)
      ]
      | no ne ↦ inr (q, omega arith, ne)
    ]

-- of a minimal tuple: what is at or below it is it
pub least : {q : ℕ} {W : (ℕ → ℕ) → Type 0} {t : ℕ → ℕ} → Minimal q W t → (s : ℕ → ℕ) → W s → AtOrBelow q s t → Same q s t
least {q} {W} {t} b s w h =
    elim (differ q s t) [
      | inl e ↦ e
      | inr (j, l, ne) ↦ absurd (b.none_below s w (record { at_most = h; other = λ e. ne (e j l) }))
    ]

pub minimal_from : {q : ℕ} {W : (ℕ → ℕ) → Type 0} {t : ℕ → ℕ} → W t → ((s : ℕ → ℕ) → W s → AtOrBelow q s t → Same q s t) → Minimal q W t
minimal_from w h = record { holds = w; none_below = λ s v b. b.other (h s v b.at_most) }
