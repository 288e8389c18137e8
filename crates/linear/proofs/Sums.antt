-- Theorems about what specs/Sums.antt defines. Assumes nothing.
use Rattle.std.specs.Prelude.{◌≡◌, refl, ◌≢◌, ◌⊎◌, ℕ, zero, suc, ◌+◌, ◌*◌, ◌≤◌, ◌<◌, ℤ, pos, negsuc, nat_abs, ◌+ℤ◌, ◌*ℤ◌, ◌≤ℤ◌, ◌<ℤ◌}
use Rattle.std.proofs.Common.{sym, ◌∙◌, ap₂, inl, inr, ⊎_elim, lt-suc_self, eq-or-lt_of_le, le_of_suc-le-suc, add-one, arith}
use Rattle.std.proofs.Math.Nat.{le_step}
use Rattle.std.proofs.Math.IntN.{+ℤ_assoc, +ℤ_comm, *ℤ-zero, ℤ_discrete}
use Rattle.std.specs.Int.Signed.{clash_ℤ, ≤ℤ_refl}
use Rattle.linear.specs.Differences.{integers}
use Rattle.linear.proofs.Differences.{sum_is}
use Rattle.linear.proofs.Integers.{+ℤ-left-comm, +ℤ-right-comm, *ℤ-+ℤ, +ℤ-mono, nat_abs_+ℤ, compareℤ}
use Rattle.linear.specs.Sums.{sum_to}

computes : sum_to 3 (λ i. pos i *ℤ negsuc 1) ≡ negsuc 5
unfolding sum_to
computes = refl

-- one more term, as code counts
pub sum_next : (n : ℕ) (f : ℕ → ℤ) → sum_to (n + 1) f ≡ sum_to n f +ℤ f n
unfolding sum_to
sum_next n f = rw add-one

pub sum_cong : (n : ℕ) {f g : ℕ → ℤ} → ((i : ℕ) → i < n → f i ≡ g i) → sum_to n f ≡ sum_to n g
unfolding sum_to
sum_cong zero h = refl
sum_cong (suc n) {f} {g} h = cc (sum_cong n {f = f} {g = g} (λ i l. h i (le_step l)), h n (lt-suc_self n))

pub sum_zero : (n : ℕ) → sum_to n (λ i. pos 0) ≡ pos 0
unfolding sum_to
sum_zero zero = refl
sum_zero (suc n) = rw (sum_zero n)

pub sum_add : (n : ℕ) (f g : ℕ → ℤ) → sum_to n (λ i. f i +ℤ g i) ≡ sum_to n f +ℤ sum_to n g
unfolding sum_to
sum_add zero f g = refl
sum_add (suc n) f g = rw (sum_add n f g) (simp (+ℤ_assoc, +ℤ_comm, +ℤ-left-comm))

pub sum_scale : (n : ℕ) (c : ℤ) (f : ℕ → ℤ) → sum_to n (λ i. c *ℤ f i) ≡ c *ℤ sum_to n f
unfolding sum_to
sum_scale zero c f = sym (*ℤ-zero c)
sum_scale (suc n) c f = rw (sum_scale n c f, *ℤ-+ℤ)

pub sum_swap : (n m : ℕ) (f : ℕ → ℕ → ℤ) → sum_to n (λ i. sum_to m (λ j. f i j)) ≡ sum_to m (λ j. sum_to n (λ i. f i j))
unfolding sum_to
sum_swap zero m f = sym (sum_zero m)
sum_swap (suc n) m f = rw (sum_swap n m f) (sym (sum_add m _ _))

pub sum_mono : (n : ℕ) {f g : ℕ → ℤ} → ((i : ℕ) → i < n → f i ≤ℤ g i) → sum_to n f ≤ℤ sum_to n g
unfolding sum_to
sum_mono zero h = ≤ℤ_refl _
sum_mono (suc n) h = +ℤ-mono (sum_mono n (λ i l. h i (le_step l))) (h n (lt-suc_self n))

pub sum_nonneg : (n : ℕ) {f : ℕ → ℤ} → ((i : ℕ) → i < n → pos 0 ≤ℤ f i) → pos 0 ≤ℤ sum_to n f
sum_nonneg n {f} h = rw (sum_zero n) at (sum_mono n {f = λ i. pos 0} {g = f} h)

-- a term of a sum of nonnegative terms is at most the sum
pub term_le_sum : (n : ℕ) {f : ℕ → ℤ} → ((i : ℕ) → i < n → pos 0 ≤ℤ f i) → (i : ℕ) → i < n → f i ≤ℤ sum_to n f
unfolding sum_to
term_le_sum zero h i l = absurd (omega arith)
term_le_sum (suc n) {f} h i l =
    let rest : pos 0 ≤ℤ sum_to n f = sum_nonneg n {f = f} (λ j k. h j (le_step k)) in
    ⊎_elim
    (λ (e : suc i ≡ suc n). let s : i ≡ n = omega arith in rw s (omega (integers, sum_is (sum_to n f) (f n))))
    (λ k.
    omega
    (integers, h n (lt-suc_self n), sum_is (sum_to n f) (f n), term_le_sum n {f = f} (λ j k. h j (le_step k)) i (le_of_suc-le-suc k)))
    (eq-or-lt_of_le l)

-- a negative sum has a negative term
pub negative_term : (n : ℕ) {f : ℕ → ℤ} → sum_to n f <ℤ pos 0 → (i : ℕ) × (i < n) × (f i <ℤ pos 0)
unfolding sum_to
negative_term zero h = clash_ℤ h (≤ℤ_refl _)
negative_term (suc n) {f} h =
    elim (compareℤ (f n) (pos 0)) [
      | inl l ↦ (n, lt-suc_self n, l)
      | inr k ↦ let t = negative_term n {f = f} (omega (integers, sum_is (sum_to n f) (f n))) in (t.0, le_step t.1, t.2)
    ]

pub sum_bound : (n B : ℕ) (f : ℕ → ℤ) → ((i : ℕ) → i < n → nat_abs (f i) ≤ B) → nat_abs (sum_to n f) ≤ n * B
unfolding sum_to
sum_bound zero B f h = omega arith
sum_bound (suc n) B f h =
    omega (arith, nat_abs_+ℤ (sum_to n f) (f n), sum_bound n B f (λ i l. h i (le_step l)), h n (lt-suc_self n))

-- two sums whose terms differ at j only
pub sum_change : (n : ℕ) (f g : ℕ → ℤ) (j : ℕ) → j < n → ((i : ℕ) → i < n → i ≢ j → f i ≡ g i)
    → sum_to n f +ℤ g j ≡ sum_to n g +ℤ f j
unfolding sum_to
sum_change zero f g j l h = absurd (omega arith)
sum_change (suc n) f g j l h =
    ⊎_elim last (λ k. earlier k (sum_change n f g j (le_of_suc-le-suc k) (λ i m. h i (le_step m)))) (eq-or-lt_of_le l)
  where
    last : suc j ≡ suc n → sum_to (suc n) f +ℤ g j ≡ sum_to (suc n) g +ℤ f j
    last e =
        let s : j ≡ n = omega arith in
        let b : sum_to n f ≡ sum_to n g = sum_cong n (λ i k. h i (le_step k) (omega arith)) in
        rw (s, b) (+ℤ-right-comm (sum_to n g) (f n) (g n))

    earlier : suc j < suc n → sum_to n f +ℤ g j ≡ sum_to n g +ℤ f j → sum_to (suc n) f +ℤ g j ≡ sum_to (suc n) g +ℤ f j
    earlier k e =
        +ℤ-right-comm (sum_to n f) (f n) (g j) ∙ ap₂ ◌+ℤ◌ e (h n (lt-suc_self n) (omega arith)) ∙ +ℤ-right-comm (sum_to n g) (f j) (g n)

-- every term is 0, or one is not
pub zeros : (n : ℕ) (f : ℕ → ℤ) → ((i : ℕ) → i < n → f i ≡ pos 0) ⊎ ((i : ℕ) × (i < n) × (f i ≢ pos 0))
zeros zero f = inl (λ i l. absurd (omega arith))
zeros (suc n) f =
    elim (ℤ_discrete (f n) (pos 0)) [
      | yes e ↦ ⊎_elim (λ h. inl (more e h)) (λ t. inr (t.0, le_step t.1, t.2)) (zeros n f)
      | no h ↦ inr (n, lt-suc_self n, h)
    ]
  where
    more : f n ≡ pos 0 → ((i : ℕ) → i < n → f i ≡ pos 0) → (i : ℕ) → i < suc n → f i ≡ pos 0
    more e h i l = ⊎_elim (λ (k : suc i ≡ suc n). let s : i ≡ n = omega arith in rw s e) (λ k. h i (le_of_suc-le-suc k)) (eq-or-lt_of_le l)
