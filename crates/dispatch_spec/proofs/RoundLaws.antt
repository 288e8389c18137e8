-- Theorems about what specs/RoundLaws.antt defines. Assumes nothing.
use Rattle.std.specs.Prelude.{◌≡◌, refl, ◌⊎◌, Bool, true, false, T}
use Rattle.std.proofs.Common.{sym, ◌∙◌, arith, lt-ltb, le-ltb, eq-eqb, ne_eqb}
use Rattle.std.proofs.Math.Logic.{inl, inr}
use Rattle.std.proofs.Math.Option.{Option, none, some}
use Prim.Native.Nat.{ℕ, zero, suc, ◌+◌, ◌-◌, ◌≤◌, ◌<◌}
use Rattle.linear.specs.Cases.{below_suc}
use Rattle.linear.proofs.Cases.{split}
use Rattle.dispatch_spec.specs.Dispatch.{Round, put, or_else, first_to, in_round, first_asked, further, further_by, next_after, next}
use Rattle.dispatch_spec.specs.RoundLaws.{First, Next, ahead, asks, start}

-- ---- one value of a function replaced

pub put_same : {A : Type 0} (i : ℕ) (x : A) (f : ℕ → A) → put i x f i ≡ x
put_same i x f = rw (eq-eqb i i refl)

pub put_other : {A : Type 0} (i : ℕ) (x : A) (f : ℕ → A) (j : ℕ) → ¬ (j ≡ i) → put i x f j ≡ f j
put_other i x f j ne = rw (ne_eqb j i ne)

pub none_not_some : {i : ℕ} → ◌≡◌ {A = Option ℕ} none (some i) → ⊥
none_not_some e = let z : ◌≡◌ {A = ℕ} 0 1 = cc in omega arith

none_step : (n : ℕ) (o : Option ℕ) (b : Bool) → or_else o b n ≡ none → (o ≡ none) × (¬ (T b))
none_step n none true e = absurd (none_not_some (sym e))
none_step n none false e = (refl, λ t. t)
none_step n (some k) b e = absurd (none_not_some (sym e))

some_step : (n i : ℕ) (o : Option ℕ) (b : Bool) → or_else o b n ≡ some i → (o ≡ some i) ⊎ ((o ≡ none) × T b × (i ≡ n))
some_step n i none true e = inr (refl, tt, cc)
some_step n i none false e = absurd (none_not_some e)
some_step n i (some k) b e = inl e

module _ (f : ℕ → Bool) where
  pub first_none : (n : ℕ) → first_to n f ≡ none → (j : ℕ) → j < n → ¬ (T (f j))
  unfolding first_to
  first_none zero e j l = absurd (omega arith)
  first_none (suc n) e j l =
      let (e₁, fails) = none_step n (first_to n f) (f n) e in
      elim (below_suc l) [ inl h ↦ first_none n e₁ j h | inr q ↦ rw q fails ]

  pub first_some : (n i : ℕ) → first_to n f ≡ some i → First n f i
  unfolding first_to
  first_some zero i e = absurd (none_not_some e)
  first_some (suc n) i e =
      elim (some_step n i (first_to n f) (f n) e) [
        | inl e₁ ↦ let h = first_some n i e₁ in record { below = omega (arith, h.below); holds = h.holds; before = h.before }
        | inr (e₁, y, q) ↦ rw q (record { below = omega arith; holds = y; before = first_none n e₁ })
      ]

-- ---- the order in which the runs are asked

pub asked_below : (count last : ℕ) → 0 < count → first_asked count last < count
asked_below count last h =
    elim (split last count) [ inl l ↦ rw (lt-ltb last count l) l | inr l ↦ rw (le-ltb last count l) h ]

pub further_less : (count start k : ℕ) → start + k < count → further count start k ≡ start + k
further_less count start k l = rw (lt-ltb (start + k) count l)

pub further_round : (count start k : ℕ) → count ≤ start + k → further count start k ≡ start + k - count
further_round count start k l = rw (le-ltb (start + k) count l)

pub further_below : (count start k : ℕ) → start < count → k < count → further count start k < count
further_below count start k ls lk =
    elim (split (start + k) count) [
      | inl l ↦ rw (further_less count start k l) l
      | inr l ↦ rw (further_round count start k l) (omega arith)
    ]

pub ahead_less : (count start i : ℕ) → start ≤ i → ahead count start i ≡ i - start
ahead_less count start i l = rw (le-ltb i start l)

pub ahead_round : (count start i : ℕ) → i < start → ahead count start i ≡ i + count - start
ahead_round count start i l = rw (lt-ltb i start l)

module _ (count start i : ℕ) (ls : start < count) (li : i < count) where
  pub ahead_below : ahead count start i < count
  ahead_below =
      elim (split i start) [ inl l ↦ rw (ahead_round count start i l) (omega arith) | inr l ↦ rw (ahead_less count start i l) (omega arith) ]

  pub further_ahead : further count start (ahead count start i) ≡ i
  further_ahead =
      elim (split i start) [
        | inl l ↦ rw (ahead_round count start i l) (further_round count start (i + count - start) (omega arith) ∙ omega arith)
        | inr l ↦ rw (ahead_less count start i l) (further_less count start (i - start) (omega arith) ∙ omega arith)
      ]

pub ahead_further : (count start k : ℕ) → start < count → k < count → ahead count start (further count start k) ≡ k
ahead_further count start k ls lk =
    elim (split (start + k) count) [
      | inl l ↦ rw (further_less count start k l) (ahead_less count start (start + k) (omega arith) ∙ omega arith)
      | inr l ↦ rw (further_round count start k l) (ahead_round count start (start + k - count) (omega arith) ∙ omega arith)
    ]

module _ (count : ℕ) (r : Round) (some_run : 0 < count) where
  begins : (start count r some_run) < count
  begins = asked_below count r.last some_run

  at_place : (j : ℕ) → j < count → ¬ (T (asks count r (ahead count (start count r some_run) j))) → ¬ (T (in_round r j))
  at_place j l fails y = fails (rw (further_ahead count (start count r some_run) j begins l) y)

  by_first : (k : ℕ) → First count (asks count r) k → Next count r (further count (start count r some_run) k)
  by_first k h =
      record {
        below = further_below count (start count r some_run) k begins h.below;
        stays = h.holds;
        before = λ j l less. at_place j l
            (h.before (ahead count (start count r some_run) j) (rw (ahead_further count (start count r some_run) k begins h.below) at less));
      }

  taken : (o : Option ℕ) (i : ℕ) → further_by count (start count r some_run) o ≡ some i → (k : ℕ) × (o ≡ some k)
      × (further count (start count r some_run) k ≡ i)
  taken none i e = absurd (none_not_some e)
  taken (some k) i e = (k, refl, cc)

  pub next_some : (i : ℕ) → next count r ≡ some i → Next count r i
  unfolding next_after
  next_some i e =
      let (k, e₁, q) = taken (first_to count (asks count r)) i e in
      rw q at (by_first k (first_some (asks count r) count k e₁))

  none_taken : (o : Option ℕ) → further_by count (start count r some_run) o ≡ none → o ≡ none
  none_taken none e = refl
  none_taken (some k) e = absurd (none_not_some (sym e))

  pub next_none : next count r ≡ none → (j : ℕ) → j < count → ¬ (T (in_round r j))
  unfolding next_after
  next_none e j l =
      at_place j l
      (first_none (asks count r) count (none_taken (first_to count (asks count r)) e) (ahead count (start count r some_run) j)
      (ahead_below count (start count r some_run) j begins l))
