-- Theorems about what specs/Sound.antt defines. Assumes nothing.
use Rattle.std.specs.Prelude.{◌≡◌, ◌⊎◌, ℕ, ◌+◌, ◌*◌, ◌≤◌, ◌<◌, ℤ, length}
use Rattle.std.proofs.Common.{sym, ◌∙◌}
use Rattle.std.proofs.Math.Logic.{inl, inr}
use native.Mathlib.Omega.{arith}
use Rattle.linear.proofs.Cases.{split}
use Rattle.linear.proofs.SystemLaws.{value_same}
use Rattle.linear.specs.Systems.{value}
use Rattle.linear.proofs.TupleLaws.{term_le_total, total_same}
use Rattle.linear.specs.Tuples.{AtOrBelow, Nonzero, Same, total}
use Rattle.definitions.specs.System.{most_component}
use Rattle.definitions.specs.Tables.{at}
use Rattle.laws.proofs.TableLaws.{write_length}
use Rattle.engine_spec.specs.Caps.{Inside, inside_below}
use Rattle.engine_spec.specs.Equations.{Wanted}
use Rattle.engine_spec.proofs.Equations.{wanted_alike, wanted_some}
use Rattle.engine_spec.proofs.ReductionLaws.{append_kept, append_new, reduced_more}
use Rattle.engine_spec.specs.Signs.{Reduced, Within, plus}
use Rattle.engine_spec.specs.Tests.{Pair}
use Rattle.engine_spec.specs.Stage.{Stage, grown, row}
use Rattle.engine_spec.specs.Sound.{Gone, Sound, Taken, t}

pub degree_some : (q : ℕ) (x : ℕ → ℕ) → Nonzero q x → 0 < total x q
degree_some q x (j, jq, h) = omega (arith, term_le_total x q j jq)

-- ---- a row appended

module _ (cap p q : ℕ) (a : ℕ → ℕ → ℤ) (c : ℕ → ℤ) (m : ℕ) (basis : ℕ → ℕ → ℕ) (s : Stage) (sound : Sound cap p q a c m basis s) (x : ℕ → ℕ)
    (taken upper lower : ℕ) (room : s.rows * q + q ≤ length s.table) (exact : total x q ≡ s.degree) where
  pub kept : (i : ℕ) → i < s.rows → Same q (row q (t cap p q a c m basis s sound x taken upper lower room exact) i) (row q s i)
  unfolding grown
  kept i l = append_kept q s.table s.rows x i l

  pub new : Same q (row q (t cap p q a c m basis s sound x taken upper lower room exact) s.rows) x
  unfolding grown
  new = append_new q s.table s.rows x room

  kept_degree : (i : ℕ) → i < s.rows → total (row q (t cap p q a c m basis s sound x taken upper lower room exact) i) q ≡ total (row q s i) q
  kept_degree i l = total_same (row q (t cap p q a c m basis s sound x taken upper lower room exact) i) (row q s i) q (kept i l)

  new_degree : total (row q (t cap p q a c m basis s sound x taken upper lower room exact) s.rows) q ≡ s.degree
  new_degree = total_same (row q (t cap p q a c m basis s sound x taken upper lower room exact) s.rows) x q new ∙ exact

  -- a property of the rows, from the old ones and the new one
  each : (P : (ℕ → ℕ) → Type 0) → ((y z : ℕ → ℕ) → Same q y z → P y → P z) → P x → ((i : ℕ) → i < s.rows → P (row q s i)) → (i : ℕ) → i < s.rows + 1 → P
      (row q (t cap p q a c m basis s sound x taken upper lower room exact) i)
  each P alike px old i l =
      elim (split i s.rows) [
        | inl u ↦ alike (row q s i) (row q (t cap p q a c m basis s sound x taken upper lower room exact) i) (λ j jq. sym (kept i u j jq)) (old i u)
        | inr u ↦ let e : i ≡ s.rows =
            omega arith in rw e (alike x (row q (t cap p q a c m basis s sound x taken upper lower room exact) s.rows) (λ j jq. sym (new j jq)) px)
      ]

  pub still_reduced : (h k : ℕ) → h < s.rows → k < s.rows → Reduced q c s.rows (row q s) (plus (row q s h) (row q s k))
      → Reduced q c (s.rows + 1) (row q (t cap p q a c m basis s sound x taken upper lower room exact))
      (plus (row q (t cap p q a c m basis s sound x taken upper lower room exact) h)
      (row q (t cap p q a c m basis s sound x taken upper lower room exact) k))
  still_reduced h k hn kn r =
      reduced_more q c s.rows (s.rows + 1) (row q s) (row q (t cap p q a c m basis s sound x taken upper lower room exact)) (plus (row q s h) (row q s k))
      (plus (row q (t cap p q a c m basis s sound x taken upper lower room exact) h)
      (row q (t cap p q a c m basis s sound x taken upper lower room exact) k)) (omega arith) kept
      (λ j jq. omega (arith, kept h hn j jq, kept k kn j jq)) r

  pub grown_sound : Wanted cap p q a x → ((j : ℕ) → j < q → x j ≤ most_component)
      → ((i : ℕ) → i < m → Taken q basis s.degree taken i → Taken q basis s.degree s.taken i ⊎ Same q x (basis i))
      → ((h k : ℕ) → h < s.rows → k < s.rows → Pair q c (row q s) h k → Gone q (row q s) s.degree upper lower h k
      → Inside cap q (plus (row q s h) (row q s k))
      → Reduced q c (s.rows + 1) (row q (t cap p q a c m basis s sound x taken upper lower room exact))
      (plus (row q (t cap p q a c m basis s sound x taken upper lower room exact) h)
      (row q (t cap p q a c m basis s sound x taken upper lower room exact) k)))
      → ((i : ℕ) → i < s.rows → Within (value c q (row q s i)) (value c q x) → ¬ (AtOrBelow q (row q s i) x))
      → ((i : ℕ) → taken ≤ i → i < m → total (basis i) q ≡ s.degree → (k : ℕ) → k < s.rows + 1
      → total (row q (t cap p q a c m basis s sound x taken upper lower room exact) k) q ≡ s.degree
      → (l : ℕ) × (l < taken) × Same q (row q (t cap p q a c m basis s sound x taken upper lower room exact) k) (basis l))
      → Sound cap p q a c m basis (t cap p q a c m basis s sound x taken upper lower room exact)
  unfolding grown
  grown_sound wanted small within pairs apart first =
      let some : (i : ℕ) → i < s.rows + 1 → 0 < total (row q (t cap p q a c m basis s sound x taken upper lower room exact) i) q =
      each (λ y. 0 < total y q) (λ y z e l. omega (arith, total_same y z q e)) (degree_some q x (wanted_some cap p q a wanted))
      (λ i l. degree_some q (row q s i) (wanted_some cap p q a (sound.wanted i l))) in
      record {
        capped = sound.capped;
        fits = omega (arith, write_length x s.table (s.rows * q) q);
        small = λ i j l jq. each (λ y. y j ≤ most_component) (λ y z e l. omega (arith, e j jq)) (small j jq) (λ i l. sound.small i j l jq) i l;
        wanted = each (Wanted cap p q a) (λ y z e w. wanted_alike cap p q a e w) wanted sound.wanted;
        sorted = λ i k ik kn. elim (split k s.rows) [
          | inl u ↦ omega (arith, kept_degree i (omega arith), kept_degree k u, sound.sorted i k ik u)
          | inr u ↦
              let e : k ≡ s.rows = omega arith in
              elim (split i s.rows) [
                | inl w ↦ rw e (omega (arith, kept_degree i w, new_degree, sound.low i w))
                | inr w ↦ let g : i ≡ k = omega arith in rw g (omega arith)
              ]
        ];
        low = each (λ y. total y q ≤ s.degree) (λ y z e l. omega (arith, total_same y z q e)) (omega arith) sound.low;
        within = λ i l g. elim (within i l g) [
          | inl u ↦ let (k, kn, e) = sound.within i l u in (k, omega arith, λ j jq. kept k kn j jq ∙ e j jq)
          | inr e ↦ (s.rows, omega arith, λ j jq. new j jq ∙ e j jq)
        ];
        pairs = λ h k hn kn o g inside.
            let small_sum : total (row q (t cap p q a c m basis s sound x taken upper lower room exact) h) q + total
            (row q (t cap p q a c m basis s sound x taken upper lower room exact) k) q ≤ s.degree =
            elim g [ inl l ↦ omega arith | inr (e, b) ↦ omega arith ] in
            elim (split h s.rows) [
              | inl hl ↦ elim (split k s.rows) [
                | inl kl ↦
                    pairs h k hl kl (rw (value_same c q (kept h hl), value_same c q (kept k kl)) at o) (rw (kept_degree h hl, kept_degree k kl) at g)
                    (inside_below cap q (plus (row q s h) (row q s k))
                    (plus (row q (t cap p q a c m basis s sound x taken upper lower room exact) h)
                    (row q (t cap p q a c m basis s sound x taken upper lower room exact) k))
                    (λ j jq. omega (arith, kept h hl j jq, kept k kl j jq)) inside)
                | inr kl ↦ let e : k ≡ s.rows = omega arith in absurd (omega (arith, rw e at small_sum, new_degree, some h hn))
              ]
              | inr hl ↦ let e : h ≡ s.rows = omega arith in absurd (omega (arith, rw e at small_sum, new_degree, some k kn))
            ];
        apart = λ i k ik kn w b.
            let il : i < s.rows = omega arith in
            let w' = rw (value_same c q (kept i il)) at w in
            elim (split k s.rows) [
              | inl u ↦ sound.apart i k ik u (rw (value_same c q (kept k u)) at w') (λ j jq. omega (arith, b j jq, kept i il j jq, kept k u j jq))
              | inr u ↦
                  let e : k ≡ s.rows = omega arith in
                  apart i il (rw (value_same c q new) at (rw e at w')) (λ j jq. omega (arith, (rw e at b) j jq, kept i il j jq, new j jq))
            ];
        first = first;
      }
