-- Theorems about what specs/Operations.antt defines. Assumes nothing.
use Rattle.std.specs.Prelude.{◌≡◌, refl, ◌≢◌, ◌⊎◌, List, ℕ, zero, suc, ◌+◌, ◌*◌, ◌≤◌, ◌<◌, T, ℤ, pos, negsuc, ◌+ℤ◌, ◌*ℤ◌, length, get_or}
use Rattle.std.proofs.Common.{sym, ◌∙◌, ap, arith, length-set, get_or-set_same, get_or-set_other}
use Rattle.std.proofs.Math.Logic.{inl, inr}
use Rattle.std.proofs.Math.Decide.{ℕ_discrete}
use Rattle.std.proofs.Math.IntN.{*ℤ-zero, +ℤ_idr, +ℤ_idl, zero-*ℤ}
use Rattle.linear.specs.Cases.{below_suc}
use Rattle.linear.proofs.Cases.{order}
use Rattle.linear.specs.Combinations.{Enumerates}
use Rattle.linear.specs.Differences.{integers, up_mul, down_mul}
use Rattle.linear.proofs.Integers.{*ℤ-assoc, +ℤ-*ℤ}
use Rattle.linear.proofs.Sums.{sum_add, sum_scale}
use Rattle.linear.specs.Systems.{Solution, inner, value}
use Rattle.linear.proofs.SystemLaws.{inner_cong}
use Rattle.definitions.specs.Tables.{frozen}
use Rattle.laws.proofs.TableLaws.{row_before, row_fits}
use Rattle.engine_spec.specs.Done.{among}
use Rattle.engine_spec.proofs.Done.{done_solved, solved_done}
use Rattle.engine_spec.specs.Engine.{Work, combination, combined, fill_to, system}
use Rattle.engine_spec.specs.Equations.{LoopInside, Wanted}
use Rattle.engine_spec.specs.Sound.{Given}
use Rattle.engine_spec.specs.Operations.{Alike, b}

pub alike_then : {p q : ℕ} {a b c : ℕ → ℕ → ℤ} → Alike p q a b → Alike p q b c → Alike p q a c
alike_then r s = record { there = λ t h. s.there t (r.there t h); back = λ t h. r.back t (s.back t h) }

-- ---- so they have the same minimal solutions

module _ (cap : ℕ) {p q : ℕ} {a b : ℕ → ℕ → ℤ} (s : Alike p q a b) where
  wanted_there : (t : ℕ → ℕ) → Wanted cap p q a t → Wanted cap p q b t
  wanted_there t w = record { solution = s.there t w.solution; admitted = w.admitted }

  wanted_back : (t : ℕ → ℕ) → Wanted cap p q b t → Wanted cap p q a t
  wanted_back t w = record { solution = s.back t w.solution; admitted = w.admitted }

  pub alike_enumerates : {n : ℕ} {row : ℕ → ℕ → ℕ} → Enumerates q (LoopInside cap p q a) n row → Enumerates q (LoopInside cap p q b) n row
  alike_enumerates {n} {row} e =
      record {
        only = λ i l. record {
          holds = wanted_there (row i) (e.only i l).holds;
          none_below = λ u w b. (e.only i l).none_below u (wanted_back u w) b;
        };
        once = e.once;
        all = λ t b. e.all t (record { holds = wanted_back t b.holds; none_below = λ u w l. b.none_below u (wanted_there u w) l });
      }

  pub alike_given : {m : ℕ} {basis : ℕ → ℕ → ℕ} → Given cap p q a m basis → Given cap p q b m basis
  alike_given g = record { loops = alike_enumerates g.loops; small = g.small }

-- ---- numbers written

pub fill_length : (n : ℕ) (table : List ℤ) (base : ℕ) (f : ℕ → ℤ) → length (fill_to n table base f) ≡ length table
unfolding fill_to
fill_length zero table base f = refl
fill_length (suc n) table base f = length-set (fill_to n table base f) (base + n) (f n) ∙ fill_length n table base f

pub fill_inside : (n : ℕ) (table : List ℤ) (base : ℕ) (f : ℕ → ℤ) → base + n ≤ length table → (j : ℕ) → j < n
    → get_or (fill_to n table base f) (base + j) (pos 0)
    ≡ f j
unfolding fill_to
fill_inside zero table base f l j jn = absurd (omega arith)
fill_inside (suc n) table base f l j jn =
    elim (below_suc jn) [
      | inl k ↦ get_or-set_other (fill_to n table base f) (base + n) (base + j) (f n) (pos 0) (omega arith) ∙ fill_inside n table base f (omega arith) j k
      | inr e ↦ rw e (get_or-set_same (fill_to n table base f) (base + n) (f n) (pos 0) (omega (arith, fill_length n table base f)))
    ]

pub fill_outside : (n : ℕ) (table : List ℤ) (base : ℕ) (f : ℕ → ℤ) (i : ℕ) → (i < base) ⊎ (base + n ≤ i) → get_or (fill_to n table base f) i (pos 0)
    ≡ get_or table
    i (pos 0)
unfolding fill_to
fill_outside zero table base f i o = refl
fill_outside (suc n) table base f i o =
    get_or-set_other (fill_to n table base f) (base + n) i (f n) (pos 0) (elim o [ inl l ↦ omega arith | inr l ↦ omega arith ])
    ∙ fill_outside n table base f i (elim o [ inl l ↦ inl l | inr l ↦ inr (omega arith) ])

-- ---- values

pub value_alike : {c d : ℕ → ℤ} (q : ℕ) (t : ℕ → ℕ) → ((j : ℕ) → j < q → c j ≡ d j) → value c q t ≡ value d q t
unfolding value
value_alike q t h = inner_cong q h (λ j l. refl)

value_scaled : (s : ℤ) (c : ℕ → ℤ) (q : ℕ) (t : ℕ → ℕ) → value (λ j. s *ℤ c j) q t ≡ s *ℤ value c q t
unfolding value inner
value_scaled s c q t = simp *ℤ-assoc (sum_scale q s (λ j. c j *ℤ pos (t j)))

value_added : (c d : ℕ → ℤ) (q : ℕ) (t : ℕ → ℕ) → value (λ j. c j +ℤ d j) q t ≡ value c q t +ℤ value d q t
unfolding value inner
value_added c d q t = simp +ℤ-*ℤ (sum_add q (λ j. c j *ℤ pos (t j)) (λ j. d j *ℤ pos (t j)))

pub value_combination : (q : ℕ) (a : ℕ → ℕ → ℤ) (r s : ℕ) (u t : ℤ) (x : ℕ → ℕ)
    → value (combination q a r s u t) q x ≡ (u *ℤ value (a r) q x) +ℤ (t *ℤ value (a s) q x)
value_combination q a r s u t x =
    value_added (λ j. u *ℤ a r j) (λ j. t *ℤ a s j) q x ∙ rw (value_scaled u (a r) q x, value_scaled t (a s) q x)

factor_zero : (s v : ℤ) → s ≢ pos 0 → s *ℤ v ≡ pos 0 → v ≡ pos 0
factor_zero (pos zero) v ne e = absurd (ne refl)
factor_zero (pos (suc n)) (pos m) ne e = ap pos (omega (integers, e))
factor_zero (pos (suc n)) (negsuc m) ne e = absurd (omega (integers, e, up_mul (pos (suc n)) (negsuc m), down_mul (pos (suc n)) (negsuc m)))
factor_zero (negsuc n) (pos m) ne e = omega (integers, e, up_mul (negsuc n) (pos m), down_mul (negsuc n) (pos m))
factor_zero (negsuc n) (negsuc m) ne e = absurd (omega (integers, e, up_mul (negsuc n) (negsuc m), down_mul (negsuc n) (negsuc m)))

-- ---- one operation

-- equation s is another one, or it is not added
abbrev pub Apart : (r s : ℕ) (t : ℤ) → Type 0
Apart r s t = (r ≢ s) ⊎ (t ≡ pos 0)

module _ (p q : ℕ) (w : Work) (r s : ℕ) (u t : ℤ) (long : p * q ≤ length w.equations) (rp : r < p) where
  row_new : (j : ℕ) → j < q → (b p q w r s u t long rp) r j ≡ combination q (system q w) r s u t j
  unfolding combined
  row_new j jq = fill_inside q w.equations (r * q) (combination q (system q w) r s u t) (omega (arith, row_fits q r p rp)) j jq

  row_old : (i : ℕ) → i ≢ r → (j : ℕ) → j < q → (b p q w r s u t long rp) i j ≡ system q w i j
  unfolding combined
  row_old i ne j jq =
      fill_outside q w.equations (r * q) (combination q (system q w) r s u t) (i * q + j)
      (elim (order i r) [
        | inl l ↦ inl (omega (arith, row_before q r i 0 j l jq))
        | inr o ↦ elim o [ inl e ↦ absurd (ne e) | inr l ↦ inr (omega (arith, row_fits q r i l)) ]
      ])

  value_new : (x : ℕ → ℕ) → value ((b p q w r s u t long rp) r) q x ≡ (u *ℤ value (system q w r) q x) +ℤ (t *ℤ value (system q w s) q x)
  value_new x = value_alike q x row_new ∙ value_combination q (system q w) r s u t x

  pub value_old : (i : ℕ) → i ≢ r → (x : ℕ → ℕ) → value ((b p q w r s u t long rp) i) q x ≡ value (system q w i) q x
  value_old i ne x = value_alike q x (row_old i ne)

  -- the solutions stay the same
  pub combined_alike : s < p → u ≢ pos 0 → Apart r s t → Alike p q (system q w) (b p q w r s u t long rp)
  combined_alike sp some apart =
      record {
        there = λ x h i l. elim (ℕ_discrete i r) [
          | yes e ↦ rw e (value_new x ∙ rw (h r rp, h s sp, *ℤ-zero u, *ℤ-zero t) (+ℤ_idl (pos 0)))
          | no ne ↦ value_old i ne x ∙ h i l
        ];
        back = λ x h i l. elim (ℕ_discrete i r) [
          | yes e ↦ rw e (factor_zero u (value (system q w r) q x) some (sym (alone x h) ∙ (sym (value_new x) ∙ h r rp)))
          | no ne ↦ sym (value_old i ne x) ∙ h i l
        ];
      }
    where
      alone : (x : ℕ → ℕ) → Solution p q (b p q w r s u t long rp) x → (u *ℤ value (system q w r) q x) +ℤ (t *ℤ value (system q w s) q x)
          ≡ u *ℤ value (system q w r) q x
      alone x h =
          elim apart [
            | inl ne ↦
                let z : value (system q w s) q x ≡ pos 0 = sym (value_old s (λ e. ne (sym e)) x) ∙ h s sp in
                rw (z, *ℤ-zero t) (+ℤ_idr (u *ℤ value (system q w r) q x))
            | inr z ↦ rw (z, zero-*ℤ (value (system q w s) q x)) (+ℤ_idr (u *ℤ value (system q w r) q x))
          ]

  -- and so do those of the equations done, of which equation r is none
  pub done_alike : ¬ (T (frozen w.done r)) → Alike p q (among w.done (system q w)) (among w.done (b p q w r s u t long rp))
  done_alike not_done =
      record {
        there = λ x h. solved_done p q (b p q w r s u t long rp) w.done x
            (λ i l f. value_old i (λ e. not_done (rw e at f)) x ∙ done_solved p q (system q w) w.done x h i l f);
        back = λ x h.
            solved_done p q (system q w) w.done x
            (λ i l f. sym (value_old i (λ e. not_done (rw e at f)) x) ∙ done_solved p q (b p q w r s u t long rp) w.done x h i l f);
      }
