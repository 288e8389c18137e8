-- What was collected is the meaning of what was read, unless the multipliers around a bracket exceed the limit. Assumes nothing.
use Rattle.std.specs.Prelude.{ℕ, zero, suc, ◌<◌, Bool, true, false, cond, ◌||◌, List, [], ◌∷◌, ◌≡◌, refl, eqb, ltb, length, get_or, set}
use Rattle.std.proofs.Common.{sym, ap, ap₂, ◌∙◌, arith, length-set, eqb-true, ne_eqb, eq-eqb}
use lib.IntN.{ℤ, pos, nat_abs, ◌+ℤ◌, ◌*ℤ◌, +ℤ_idr, *ℤ-zero, *ℤ-one}
use Rattle.linear.proofs.Integers.{nat_abs_*ℤ, nat_abs_negℤ}
use Rattle.linear.specs.Terms.{#◌, ◌⊕◌, ◌⊗◌, ⊖◌}
use Rattle.linear.proofs.Terms.{ring}
use Rattle.definitions.specs.System.{coef_limit}
use Rattle.definitions.specs.Refusals.{out_of_range}
use Rattle.equation_spec.specs.Grammar.{Sign, plus, minus, Lead, bare, led, Sum, one, more, Term, number, plain, times, Factor, unknown, bracket}
use Rattle.equation_spec.specs.Meaning.{signed, led_by, single, of_sum, of_term, of_factor, sum_exceeds, term_exceeds, factor_exceeds}
use Rattle.equation_spec.proofs.Unknowns.{SumUpTo, TermUpTo, FactorUpTo}
use Rattle.equation_read.specs.Totals.{add_at, bounded, add_sum, add_term, add_factor, exceeds_sum, exceeds_term, exceeds_factor}

-- ---- whether the limit is exceeded goes by the size of the multiplier

signed_size : (s : Sign) (z : ℤ) → nat_abs (signed s z) ≡ nat_abs z
signed_size plus z = refl
signed_size minus z = nat_abs_negℤ z

led_size : (l : Lead) (z : ℤ) → nat_abs (led_by l z) ≡ nat_abs z
led_size bare z = refl
led_size (led s) z = signed_size s z

or_true : (b : Bool) → (b || true) ≡ true
or_true true = refl
or_true false = refl

or_false : (b : Bool) → (b || false) ≡ b
or_false true = refl
or_false false = refl

bracket_exceeds : (z : ℤ) (x : ℤ → Bool) (y : Bool) → x z ≡ y → (x (bounded z) || out_of_range z) ≡ (ltb coef_limit (nat_abs z) || y)
bracket_exceeds z x y h = go (out_of_range z)
  where
    go : (b : Bool) → (x (cond b (pos 0) z) || b) ≡ (b || y)
    go true = or_true (x (pos 0))
    go false = or_false (x z) ∙ h

mutual
  unfolding exceeds_sum sum_exceeds

  pub sum_exceeds_lem : (e : Sum) (z : ℤ) → exceeds_sum e z ≡ sum_exceeds e (nat_abs z)
  sum_exceeds_lem (one l u) z = term_exceeds_lem u (led_by l z) ∙ ap (term_exceeds u) (led_size l z)
  sum_exceeds_lem (more e s u) z = ap₂ (λ a b. a || b) (sum_exceeds_lem e z) (term_exceeds_lem u (signed s z) ∙ ap (term_exceeds u) (signed_size s z))

  pub term_exceeds_lem : (u : Term) (z : ℤ) → exceeds_term u z ≡ term_exceeds u (nat_abs z)
  term_exceeds_lem (number n) z = refl
  term_exceeds_lem (plain f) z = factor_exceeds_lem f z
  term_exceeds_lem (times n f) z = factor_exceeds_lem f (z *ℤ pos n) ∙ ap (factor_exceeds f) (nat_abs_*ℤ z (pos n))

  pub factor_exceeds_lem : (f : Factor) (z : ℤ) → exceeds_factor f z ≡ factor_exceeds f (nat_abs z)
  factor_exceeds_lem (unknown k) z = refl
  factor_exceeds_lem (bracket e) z = bracket_exceeds z (exceeds_sum e) (sum_exceeds e (nat_abs z)) (sum_exceeds_lem e z)

-- ---- totals

mutual
  unfolding add_sum

  pub sum_length : (e : Sum) (z : ℤ) (ts : List ℤ) → length (add_sum e z ts) ≡ length ts
  sum_length (one l u) z ts = term_length u (led_by l z) ts
  sum_length (more e s u) z ts = term_length u (signed s z) (add_sum e z ts) ∙ sum_length e z ts

  term_length : (u : Term) (z : ℤ) (ts : List ℤ) → length (add_term u z ts) ≡ length ts
  term_length (number n) z ts = length-set ts 0 _
  term_length (plain f) z ts = factor_length f z ts
  term_length (times n f) z ts = factor_length f (z *ℤ pos n) ts

  factor_length : (f : Factor) (z : ℤ) (ts : List ℤ) → length (add_factor f z ts) ≡ length ts
  factor_length (unknown k) z ts = length-set ts k _
  factor_length (bracket e) z ts = sum_length e (bounded z) ts

-- x at place k of a list
pub set_at : (ts : List ℤ) (k i : ℕ) (x : ℤ) → k < length ts → get_or (set ts k x) i (pos 0) ≡ cond (eqb i k) x (get_or ts i (pos 0))
set_at [] k i x l = absurd (omega arith)
set_at (t ∷ ts) zero zero x l = refl
set_at (t ∷ ts) zero (suc i) x l = rw (ne_eqb (suc i) 0 (λ e. omega arith))
set_at (t ∷ ts) (suc k) zero x l = rw (ne_eqb 0 (suc k) (λ e. omega arith))
set_at (t ∷ ts) (suc k) (suc i) x l = set_at ts k i x (omega arith) ∙ ap (λ b. cond b x (get_or ts i (pos 0))) (eqb_suc i k)
  where
    eqb_suc : (i k : ℕ) → eqb i k ≡ eqb (suc i) (suc k)
    eqb_suc i k =
        elim (native.Mathlib.Decide.ℕ_discrete i k) [
          | yes h ↦ eq-eqb i k h ∙ sym (eq-eqb (suc i) (suc k) (ap suc h))
          | no h ↦ ne_eqb i k h ∙ sym (ne_eqb (suc i) (suc k) (λ e. h (omega arith)))
        ]

-- what is added at place k
add_at_lem : (ts : List ℤ) (k i : ℕ) (v : ℤ) → k < length ts → get_or (add_at k v ts) i (pos 0) ≡ get_or ts i (pos 0) +ℤ single k v i
add_at_lem ts k i v l = set_at ts k i _ l ∙ go (eqb i k) refl
  where
    go : (b : Bool) → eqb i k ≡ b → cond b (get_or ts k (pos 0) +ℤ v) (get_or ts i (pos 0)) ≡ get_or ts i (pos 0) +ℤ cond b v (pos 0)
    go true e = rw (eqb-true i k e)
    go false e = sym (+ℤ_idr (get_or ts i (pos 0)))

times_single : (z v : ℤ) (k i : ℕ) → single k (z *ℤ v) i ≡ z *ℤ single k v i
times_single z v k i = go (eqb i k)
  where
    go : (b : Bool) → cond b (z *ℤ v) (pos 0) ≡ z *ℤ cond b v (pos 0)
    go true = refl
    go false = sym (*ℤ-zero z)

one_single : (z : ℤ) (k i : ℕ) → single k z i ≡ z *ℤ single k (pos 1) i
unfolding lib.IntN.one
one_single z k i = ap (λ x. single k x i) (sym (*ℤ-one z)) ∙ times_single z (pos 1) k i

signed_times : (s : Sign) (z v : ℤ) → signed s z *ℤ v ≡ z *ℤ signed s v
signed_times plus z v = refl
signed_times minus z v = ring ((⊖ (# z)) ⊗ # v) (# z ⊗ (⊖ (# v))) (omega arith)

led_times : (l : Lead) (z v : ℤ) → led_by l z *ℤ v ≡ z *ℤ led_by l v
led_times bare z v = refl
led_times (led s) z v = signed_times s z v

or_parts : (a b : Bool) → (a || b) ≡ false → (a ≡ false) × (b ≡ false)
or_parts true b e = absurd (let z : ◌≡◌ {A = ℕ} 0 1 = cc in omega arith)
or_parts false b e = (refl, e)

-- Where no bracket's multipliers exceed the limit, each total grows by z times the value.
abbrev Adds : (ℤ → List ℤ → List ℤ) → (ℕ → ℤ) → ℤ → Type 0
Adds add value z = (ts : List ℤ) (i : ℕ) → length ts ≡ 17 → get_or (add z ts) i (pos 0) ≡ get_or ts i (pos 0) +ℤ z *ℤ value i

more_adds : (e : Sum) (s : Sign) (u : Term) (z : ℤ) → Adds (add_sum e) (of_sum e) z → Adds (add_term u) (of_term u) (signed s z)
    → Adds (add_sum (more e s u)) (of_sum (more e s u)) z
unfolding add_sum of_sum
more_adds e s u z f g ts i l =
    g (add_sum e z ts) i (sum_length e z ts ∙ l)
    ∙ ap₂ (λ a b. a +ℤ b) (f ts i l) (signed_times s z (of_term u i))
    ∙ ring (# get_or ts i (pos 0) ⊕ # z ⊗ # of_sum e i ⊕ # z ⊗ # signed s (of_term u i))
    (# get_or ts i (pos 0) ⊕ # z ⊗ (# of_sum e i ⊕ # signed s (of_term u i))) (omega arith)

mutual
  unfolding add_sum of_sum exceeds_sum SumUpTo

  pub sum_adds : (e : Sum) (z : ℤ) → SumUpTo e 16 → exceeds_sum e z ≡ false → Adds (add_sum e) (of_sum e) z
  sum_adds (one l u) z w h ts i n = term_adds u (led_by l z) w h ts i n ∙ ap (λ x. get_or ts i (pos 0) +ℤ x) (led_times l z (of_term u i))
  sum_adds (more e s u) z w h ts i n =
      more_adds e s u z (λ us j m. sum_adds e z w.0 (or_parts _ (exceeds_term u (signed s z)) h).0 us j m)
      (λ us j m. term_adds u (signed s z) w.1 (or_parts (exceeds_sum e z) _ h).1 us j m) ts i n

  term_adds : (u : Term) (z : ℤ) → TermUpTo u 16 → exceeds_term u z ≡ false → Adds (add_term u) (of_term u) z
  term_adds (number n) z w h ts i l = add_at_lem ts 0 i (z *ℤ pos n) (omega arith) ∙ ap (λ x. get_or ts i (pos 0) +ℤ x) (times_single z (pos n) 0 i)
  term_adds (plain f) z w h ts i l = factor_adds f z w h ts i l
  term_adds (times n f) z w h ts i l =
      factor_adds f (z *ℤ pos n) w h ts i l
      ∙ ap (λ x. get_or ts i (pos 0) +ℤ x) (ring (# z ⊗ # pos n ⊗ # of_factor f i) (# z ⊗ (# pos n ⊗ # of_factor f i)) (omega arith))

  factor_adds : (f : Factor) (z : ℤ) → FactorUpTo f 16 → exceeds_factor f z ≡ false → Adds (add_factor f) (of_factor f) z
  factor_adds (unknown k) z w h ts i l = add_at_lem ts k i z (omega arith) ∙ ap (λ x. get_or ts i (pos 0) +ℤ x) (one_single z k i)
  factor_adds (bracket e) z w h ts i l =
      let (a, b) = or_parts (exceeds_sum e (bounded z)) (out_of_range z) h in
      let x : bounded z ≡ z = ap (λ c. cond c (pos 0) z) b in
      rw x (sum_adds e z w (rw x at a) ts i l)
