-- Theorems about what specs/Combinations.antt defines. Assumes nothing.
use Rattle.std.specs.Prelude.{◌≡◌, refl, ◌⊎◌, ℕ, zero, suc, ◌+◌, ◌*◌, ◌-◌, ◌≤◌, ◌<◌, ℤ, pos, ◌+ℤ◌, ◌*ℤ◌, ◌<ℤ◌}
use Rattle.std.proofs.Common.{sym, ◌∙◌, ap, inl, inr, mul_comm, arith}
use Rattle.std.proofs.Math.Decide.{dec_lt, ℕ_discrete}
use Rattle.std.proofs.Math.IntN.{*ℤ-zero}
use Rattle.linear.specs.Cases.{below_suc}
use Rattle.linear.proofs.Direction.{direction_of}
use Rattle.linear.proofs.Pigeonhole.{pigeonhole}
use Rattle.linear.proofs.RightSides.{meets_less}
use Rattle.linear.specs.Sums.{sum_to}
use Rattle.linear.proofs.Sums.{sum_cong, sum_zero}
use Rattle.linear.specs.Systems.{Fails, inner, value, image, Solution}
use Rattle.linear.proofs.SystemLaws.{inner_cong, inner_sum, value_same}
use Rattle.linear.specs.TupleLaws.{total_none, unit_other, unit_same}
use Rattle.linear.proofs.TupleLaws.{minimal_from, term_le_total, total_less, total_same, total_some}
use Rattle.linear.specs.Tuples.{AtOrBelow, Minimal, Nonzero, Same, total, unit}
use Rattle.linear.specs.Combinations.{combined, combined_sum, combined_unit, total_pick}

-- no copy of any row
pub combined_none : (n : ℕ) (row : ℕ → ℕ → ℕ) (j : ℕ) → combined n (λ i. 0) row j ≡ 0
combined_none n row j = total_none (λ i. 0 * row i j) n (λ i l. omega arith)

unit_flip : (i j : ℕ) → unit i j ≡ unit j i
unfolding unit
unit_flip zero zero = refl
unit_flip zero (suc j) = refl
unit_flip (suc i) zero = refl
unit_flip (suc i) (suc j) = unit_flip i j

-- t j copies of each unit tuple j make t
pub combined_units : (q : ℕ) (t : ℕ → ℕ) (j : ℕ) → j < q → combined q t unit j ≡ t j
combined_units q t j l =
    total_same (λ i. t i * unit i j) (λ i. unit j i * t i) q (λ i h. rw (unit_flip i j) (mul_comm (t i) (unit j i))) ∙ total_pick t j q l

-- one copy of row k less
pub combined_lower : (n : ℕ) (times : ℕ → ℕ) (row : ℕ → ℕ → ℕ) (k j : ℕ) → k < n → 0 < times k
    → combined n times row j ≡ combined n (λ i. times i - unit k i) row j + row k j
combined_lower n times row k j l h =
    omega (arith, combined_sum n (λ i. times i - unit k i) (unit k) times row j put_back, combined_unit n row k j l)
  where
    put_back : (i : ℕ) → i < n → times i ≡ times i - unit k i + unit k i
    put_back i il = elim (ℕ_discrete i k) [ yes e ↦ rw (e, unit_same k) (omega arith) | no ne ↦ rw (unit_other k i ne) (omega arith) ]

-- a row that is taken is at most the sum
pub combined_above : (n : ℕ) (times : ℕ → ℕ) (row : ℕ → ℕ → ℕ) (k j : ℕ) → k < n → 0 < times k → row k j ≤ combined n times row j
combined_above n times row k j l h = grow (times k) (row k j) h (term_le_total (λ i. times i * row i j) n k l)
  where
    grow : (y r : ℕ) → 0 < y → {z : ℕ} → y * r ≤ z → r ≤ z
    grow zero r h b = absurd (omega arith)
    grow (suc y) r h b = omega arith

factors_some : (a b : ℕ) → 0 < a * b → (0 < a) × (0 < b)
factors_some zero b h = absurd (omega arith)
factors_some (suc a) zero h = absurd (omega arith)
factors_some (suc a) (suc b) h = omega arith

-- a sum that is not 0 has a row that is taken and is not 0
pub combined_some : (q n : ℕ) (times : ℕ → ℕ) (row : ℕ → ℕ → ℕ) → Nonzero q (combined n times row) → (k : ℕ) × (k < n) × (0 < times k) × Nonzero q (row k)
combined_some q n times row (j, jq, h) =
    let (k, l, some) = total_some (λ i. times i * row i j) n (omega arith) in
    let (a, b) = factors_some (times k) (row k j) some in
    (k, l, a, (j, jq, b))

-- ---- sums of solutions

pub pos_total : (f : ℕ → ℕ) (n : ℕ) → pos (total f n) ≡ sum_to n (λ i. pos (f i))
unfolding total sum_to
pos_total f zero = refl
pos_total f (suc n) = rw (← pos_total f n)

pub value_combined : (c : ℕ → ℤ) (q n : ℕ) (times : ℕ → ℕ) (row : ℕ → ℕ → ℕ)
    → value c q (combined n times row) ≡ sum_to n (λ i. pos (times i) *ℤ value c q (row i))
unfolding value
value_combined c q n times row =
    inner_cong q (λ j l. refl) (λ j l. pos_total (λ i. times i * row i j) n) ∙ inner_sum q n c times (λ i j. pos (row i j))

pub combined_solves : (p q n : ℕ) (a : ℕ → ℕ → ℤ) (times : ℕ → ℕ) (row : ℕ → ℕ → ℕ) → ((i : ℕ) → i < n → Solution p q a (row i))
    → Solution p q a (combined n times row)
combined_solves p q n a times row s e l =
    value_combined (a e) q n times row ∙ sum_cong n (λ i h. rw (s i h e l) (*ℤ-zero (pos (times i)))) ∙ sum_zero n

-- The direction lemma in natural numbers: where m is x and times k copies of u k for each k < n, and m is a solution and x is none, some u k
-- that is taken has an image that points against that of x.
pub direction_combined : (p q n : ℕ) (a : ℕ → ℕ → ℤ) (x m times : ℕ → ℕ) (u : ℕ → ℕ → ℕ) → Fails p q a x → Solution p q a m
    → ((j : ℕ) → j < q → m j ≡ x j + combined n times u j)
    → (k : ℕ) × (k < n) × (0 < times k) × (inner p (image a q x) (image a q (u k)) <ℤ pos 0)
direction_combined p q n a x m times u f s e =
    direction_of p q n a x m times u f s (λ j l. ap pos (e j l) ∙ ap (λ z. pos (x j) +ℤ z) (pos_total (λ k. times k * u k j) n))

pub solution_same : (p q : ℕ) (a : ℕ → ℕ → ℤ) {s t : ℕ → ℕ} → Same q s t → Solution p q a s → Solution p q a t
solution_same p q a e s i l = sym (value_same (a i) q e) ∙ s i l

-- what is left of a solution after a solution at or below it has been taken off
pub rest_solves : (p q : ℕ) (a : ℕ → ℕ → ℤ) (s t : ℕ → ℕ) → AtOrBelow q s t → Solution p q a s → Solution p q a t → Solution p q a (λ j. t j - s j)
rest_solves p q a s t b hs ht = meets_less p q a (λ i. pos 0) t s ht hs b

-- ---- search

-- s is at or below t, or larger at a place that can be found
pub below? : (q : ℕ) (s t : ℕ → ℕ) → AtOrBelow q s t ⊎ ((j : ℕ) × (j < q) × (t j < s j))
below? zero s t = inl (λ j l. absurd (omega arith))
below? (suc q) s t =
    elim (dec_lt (t q) (s q)) [
      | yes h ↦ inr (q, omega arith, h)
      | no h ↦ elim (below? q s t) [
        | inl b ↦ inl (λ j l. elim (below_suc l) [ inl k ↦ b j k | inr e ↦ rw e (omega arith) ])
        | inr (j, l, lt) ↦ inr (j, omega arith, lt)
      ]
    ]

-- a row at or below t is found, or there is none
pub row_below? : (q n : ℕ) (row : ℕ → ℕ → ℕ) (t : ℕ → ℕ) → ((i : ℕ) × (i < n) × AtOrBelow q (row i) t) ⊎ ((i : ℕ) → i < n → ¬ (AtOrBelow q (row i) t))
row_below? q zero row t = inr (λ i l. absurd (omega arith))
row_below? q (suc n) row t =
    elim (below? q (row n) t) [
      | inl b ↦ inl (n, omega arith, b)
      | inr (j, jq, lt) ↦ elim (row_below? q n row t) [
        | inl (i, l, b) ↦ inl (i, omega arith, b)
        | inr none ↦ inr (λ i l b. elim (below_suc l) [ inl k ↦ none i k b | inr e ↦ omega (arith, rw e at (b j jq)) ])
      ]
    ]

-- A tuple of W has a minimal tuple of W at or below it: not found, but never missing. By descent on the sum of components.
pub minimal_below : (q : ℕ) (W : (ℕ → ℕ) → Type 0) (n : ℕ) (s : ℕ → ℕ) → total s q < n → W s → ((m : ℕ → ℕ) → Minimal q W m → AtOrBelow q m s → ⊥) → ⊥
minimal_below q W zero s l w none = omega arith
minimal_below q W (suc n) s l w none =
    none s
    (minimal_from w (λ u v b j h. elim (ℕ_discrete (u j) (s j)) [
      | yes e ↦ e
      | no ne ↦ absurd (minimal_below q W n u (omega (arith, total_less q b j h ne)) v (λ m bm c. none m bm (λ i g. omega (arith, b i g, c i g))))
    ]))
    (λ j h. omega arith)

-- In a list that holds every minimal tuple of W, a row at or below a tuple of W is found.
pub found_below : (q : ℕ) (W : (ℕ → ℕ) → Type 0) (n : ℕ) (row : ℕ → ℕ → ℕ) → ((t : ℕ → ℕ) → Minimal q W t → (i : ℕ) × (i < n) × Same q (row i) t)
    → (t : ℕ → ℕ) → W t → (i : ℕ) × (i < n) × AtOrBelow q (row i) t
found_below q W n row all t w =
    elim (row_below? q n row t) [
      | inl at ↦ at
      | inr none ↦ absurd (minimal_below q W (suc (total t q)) t (omega arith) w (λ m bm b.
          let (i, l, e) = all m bm in
          none i l (λ j jq. omega (arith, e j jq, b j jq))))
    ]

-- ---- a list that meets each row of another is no shorter

-- n things, each met by one of m things that meets no other: n is at most m
pub met_each : (n m : ℕ) (Meets : ℕ → ℕ → Type 0) → ((i : ℕ) → i < n → (k : ℕ) × (k < m) × Meets i k)
    → ((i j k : ℕ) → i < j → j < n → Meets i k → Meets j k → ⊥) → n ≤ m
met_each n m Meets meet apart =
    pigeonhole m n (λ i. (chosen i).0) (λ i l. ((chosen i).1 l).0)
    (λ i j ij jn e. apart i j (chosen i).0 ij jn ((chosen i).1 (omega arith)).1 (rw e ((chosen j).1 jn).1))
  where
    chosen : (i : ℕ) → (k : ℕ) × (i < n → (k < m) × Meets i k)
    chosen i = elim (dec_lt i n) [ yes h ↦ let (k, l, e) = meet i h in (k, λ l'. (l, e)) | no h ↦ (0, λ l. absurd (h l)) ]
