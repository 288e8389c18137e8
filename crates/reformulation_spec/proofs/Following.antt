-- Theorems about what specs/Following.antt defines. Assumes nothing.
use Rattle.std.specs.Prelude.{◌≡◌, refl, Bool, true, false, not, ℕ, zero, suc, ◌<◌, T, ℤ, pos, negsuc, ◌+ℤ◌, ◌*ℤ◌, ◌≤ℤ◌, ◌<ℤ◌}
use Rattle.std.proofs.Common.{sym, ◌∙◌, ap, ap₂, arith}
use Rattle.std.proofs.Math.Dec.{not_T}
use Rattle.std.proofs.Math.IntN.{*ℤ-zero, +ℤ_idr, zero-*ℤ}
use Rattle.std.specs.Int.Signed.{≤ℤ_refl, clash_ℤ, lt_z, lt_z_no, lt_z_yes}
use Rattle.linear.specs.Differences.{down_mul, integers, up_mul}
use Rattle.linear.proofs.Integers.{*ℤ-assoc, +ℤ-*ℤ, ≤ℤ-antisym}
use Rattle.linear.proofs.Sums.{sum_add, sum_cong, sum_nonneg, sum_scale, sum_zero}
use Rattle.linear.specs.Systems.{inner, value}
use Rattle.linear.proofs.TestLaws.{all_at, all_from, and_both, and_parts}
use Rattle.reformulation_spec.specs.Reformulation.{follows, is_same, left_over, meets}
use Rattle.reformulation_spec.specs.Following.{AtLeast, Exactly}

-- ---- values of sums of rows

value_scaled : (s : ℤ) (c : ℕ → ℤ) (w : ℕ) (x : ℕ → ℕ) → value (λ j. s *ℤ c j) w x ≡ s *ℤ value c w x
unfolding value inner
value_scaled s c w x = simp *ℤ-assoc (sum_scale w s (λ j. c j *ℤ pos (x j)))

value_added : (c d : ℕ → ℤ) (w : ℕ) (x : ℕ → ℕ) → value (λ j. c j +ℤ d j) w x ≡ value c w x +ℤ value d w x
unfolding value inner
value_added c d w x = simp +ℤ-*ℤ (sum_add w (λ j. c j *ℤ pos (x j)) (λ j. d j *ℤ pos (x j)))

-- what is left over has at a tuple the value of the row and those of the others, taken as often
value_left : (n : ℕ) (by row : ℕ → ℤ) (a : ℕ → ℕ → ℤ) (w : ℕ) (x : ℕ → ℕ) → ((i : ℕ) → i < n → value (a i) w x ≡ pos 0)
    → value (left_over n by row a) w x ≡ by 0 *ℤ value row w x
unfolding left_over
value_left zero by row a w x zeros = value_scaled (by 0) row w x
value_left (suc n) by row a w x zeros =
    value_added (left_over n by row a) (λ j. by (suc n) *ℤ a n j) w x
    ∙ ap₂ ◌+ℤ◌ (value_left n by row a w x (λ i l. zeros i (omega arith)))
    (value_scaled (by (suc n)) (a n) w x ∙ ap (λ z. by (suc n) *ℤ z) (zeros n (omega arith)) ∙ *ℤ-zero (by (suc n)))
    ∙ +ℤ_idr (by 0 *ℤ value row w x)

-- ---- its sign

times_natural : (z : ℤ) (n : ℕ) → pos 0 ≤ℤ z → pos 0 ≤ℤ (z *ℤ pos n)
times_natural (pos m) n h = omega integers
times_natural (negsuc m) n h = absurd (omega (integers, h))

value_nonneg : (c : ℕ → ℤ) (w : ℕ) (x : ℕ → ℕ) → ((j : ℕ) → j < w → pos 0 ≤ℤ c j) → pos 0 ≤ℤ value c w x
unfolding value inner
value_nonneg c w x h = sum_nonneg w (λ j l. times_natural (c j) (x j) (h j l))

value_none : (c : ℕ → ℤ) (w : ℕ) (x : ℕ → ℕ) → ((j : ℕ) → j < w → c j ≡ pos 0) → value c w x ≡ pos 0
unfolding value inner
value_none c w x h = sum_cong w (λ j l. rw (h j l) (zero-*ℤ (pos (x j)))) ∙ sum_zero w

-- a number of 1 or more times z says the sign of z
positive_zero : (d z : ℤ) → pos 0 <ℤ d → d *ℤ z ≡ pos 0 → z ≡ pos 0
positive_zero (pos zero) z h e = absurd (omega (integers, h))
positive_zero (pos (suc n)) (pos zero) h e = refl
positive_zero (pos (suc n)) (pos (suc m)) h e = absurd (omega (integers, e))
positive_zero (pos (suc n)) (negsuc m) h e = absurd (omega (integers, e, up_mul (pos (suc n)) (negsuc m), down_mul (pos (suc n)) (negsuc m)))
positive_zero (negsuc n) z h e = absurd (omega (integers, h))

positive_nonneg : (d z : ℤ) → pos 0 <ℤ d → pos 0 ≤ℤ (d *ℤ z) → pos 0 ≤ℤ z
positive_nonneg (pos zero) z h e = absurd (omega (integers, h))
positive_nonneg (pos (suc n)) (pos m) h e = omega integers
positive_nonneg (pos (suc n)) (negsuc m) h e = absurd (omega (integers, e, up_mul (pos (suc n)) (negsuc m), down_mul (pos (suc n)) (negsuc m)))
positive_nonneg (negsuc n) z h e = absurd (omega (integers, h))

-- at a tuple at which the first n rows are 0
module _ {columns n : ℕ} {by row : ℕ → ℤ} {a : ℕ → ℕ → ℤ} (x : ℕ → ℕ) (zeros : (i : ℕ) → i < n → value (a i) columns x ≡ pos 0) where
  pub exactly_zero : Exactly columns n by row a → value row columns x ≡ pos 0
  exactly_zero h =
      positive_zero (by 0) (value row columns x) h.taken
      (sym (value_left n by row a columns x zeros) ∙ value_none (left_over n by row a) columns x h.sums)

  pub at_least_nonneg : AtLeast columns n by row a → pos 0 ≤ℤ value row columns x
  at_least_nonneg h =
      positive_nonneg (by 0) (value row columns x) h.taken
      (rw (← value_left n by row a columns x zeros) (value_nonneg (left_over n by row a) columns x h.sums))

-- ---- the tests

not_below_lem : (x y : ℤ) → y ≤ℤ x → T (not (lt_z x y))
not_below_lem x y h = not_T (lt_z x y) (λ t. clash_ℤ (lt_z_yes {a = x} {b = y} t) h)

pub same_from : (x y : ℤ) → T (is_same x y) → x ≡ y
same_from x y h = let (a, b) = and_parts (not (lt_z x y)) _ h in ≤ℤ-antisym (lt_z_no b) (lt_z_no a)

pub same_to : (x y : ℤ) → x ≡ y → T (is_same x y)
same_to x y e = and_both (not (lt_z x y)) _ (not_below_lem x y (rw e (≤ℤ_refl y))) (not_below_lem y x (rw e (≤ℤ_refl y)))

module _ (columns n : ℕ) (by row : ℕ → ℤ) (a : ℕ → ℕ → ℤ) where
  follows_parts : (exact : Bool) → T (follows exact columns n by row a)
      → (pos 0 <ℤ by 0) × ((j : ℕ) → j < columns → T (meets exact (left_over n by row a j)))
  unfolding follows
  follows_parts exact h = let (t, s) = and_parts (lt_z (pos 0) (by 0)) _ h in (lt_z_yes t, all_at columns _ s)

  follows_from : (exact : Bool) → pos 0 <ℤ by 0 → ((j : ℕ) → j < columns → T (meets exact (left_over n by row a j))) → T (follows exact columns n by row a)
  unfolding follows
  follows_from exact t s = and_both (lt_z (pos 0) (by 0)) _ t.lt (all_from columns _ s)

  pub exactly_from : T (follows true columns n by row a) → Exactly columns n by row a
  exactly_from h = let (t, s) = follows_parts true h in record { taken = t; sums = λ j l. same_from _ (pos 0) (s j l) }

  pub exactly_to : Exactly columns n by row a → T (follows true columns n by row a)
  exactly_to h = follows_from true h.taken (λ j l. same_to _ (pos 0) (h.sums j l))

  pub at_least_from : T (follows false columns n by row a) → AtLeast columns n by row a
  at_least_from h =
      let (t, s) = follows_parts false h in record { taken = t; sums = λ j l. lt_z_no (and_parts (not (lt_z (left_over n by row a j) (pos 0))) true (s j l)).0 }

  pub at_least_to : AtLeast columns n by row a → T (follows false columns n by row a)
  at_least_to h =
      follows_from false h.taken (λ j l. and_both (not (lt_z (left_over n by row a j) (pos 0))) true (not_below_lem _ (pos 0) (h.sums j l)) tt)
