-- The direction lemma (section 3 of Contejean and Devie): below a solution, some step towards it points against the image.
-- Assumes nothing.
use Rattle.std.specs.Prelude.{◌≡◌, refl, ◌≢◌, ℕ, ◌-◌, ◌<◌, ℤ, pos, ◌+ℤ◌, ◌*ℤ◌, ◌<ℤ◌}
use Rattle.std.proofs.Common.{sym, ◌∙◌, ap, arith}
use Rattle.std.proofs.Math.IntN.{*ℤ_comm}
use Rattle.linear.specs.Differences.{integers}
use Rattle.linear.proofs.Differences.{sum_is}
use Rattle.linear.proofs.Integers.{*ℤ-+ℤ, negative_factor}
use Rattle.linear.specs.Sums.{sum_to}
use Rattle.linear.proofs.Sums.{sum_cong, sum_add, negative_term}
use Rattle.linear.specs.Tuples.{AtOrBelow}
use Rattle.linear.specs.Systems.{inner, value, image, Solution, Fails}
use Rattle.linear.proofs.SystemLaws.{inner_self, inner_sum, inner_add, inner_zero, inner_cong}

-- If v is not 0, and adding y k times w k for each k < K makes it 0, then some w k that is added points against v.
pub against : (p K : ℕ) (v : ℕ → ℤ) (y : ℕ → ℕ) (w : ℕ → ℕ → ℤ) (i : ℕ) → i < p → v i ≢ pos 0
    → ((i : ℕ) → i < p → v i +ℤ sum_to K (λ k. pos (y k) *ℤ w k i) ≡ pos 0)
    → (k : ℕ) × (k < K) × (0 < y k) × (inner p v (w k) <ℤ pos 0)
against p K v y w i l h s =
    let t = negative_term K {f = λ k. pos (y k) *ℤ inner p v (w k)} negative in
    let f = negative_factor (y t.0) t.2 in
    (t.0, t.1, f.0, f.1)
  where
    rise : ℤ
    rise = sum_to K (λ k. pos (y k) *ℤ inner p v (w k))

    balance : inner p v v +ℤ rise ≡ pos 0
    balance = ap (λ z. inner p v v +ℤ z) (sym (inner_sum p K v y w)) ∙ sym (inner_add p v v _) ∙ inner_zero p v _ s

    negative : rise <ℤ pos 0
    negative = omega (integers, balance, inner_self p v i l h, sum_is (inner p v v) rise)

-- Raising one unknown: where x is at or below a solution m and is none itself, some unknown that is less in x than in m has a
-- column that points against the image of x.
pub direction : (p q : ℕ) (a : ℕ → ℕ → ℤ) (x m : ℕ → ℕ) → Fails p q a x → AtOrBelow q x m → Solution p q a m
    → (j : ℕ) × (j < q) × (x j < m j) × (inner p (image a q x) (λ i. a i j) <ℤ pos 0)
unfolding value inner
direction p q a x m f b s =
    let t = against p q (image a q x) (λ j. m j - x j) (λ j i. a i j) f.0 f.1 f.2 sum in
    (t.0, t.1, omega (arith, t.2), t.3)
  where
    sum : (i : ℕ) → i < p → image a q x i +ℤ sum_to q (λ j. pos (m j - x j) *ℤ a i j) ≡ pos 0
    sum i l = sym (sum_add q _ _) ∙ sum_cong q (λ j k. rw (*ℤ_comm (pos (m j - x j)), ← *ℤ-+ℤ) (ap (λ n. a i j *ℤ pos n) (omega (arith, b j k)))) ∙ s i l

-- Raising by tuples u k: where m is x and y k times u k for each k < K, and m is a solution and x is none, some u k that is
-- added has an image that points against that of x.
pub direction_of : (p q K : ℕ) (a : ℕ → ℕ → ℤ) (x m y : ℕ → ℕ) (u : ℕ → ℕ → ℕ) → Fails p q a x → Solution p q a m
    → ((j : ℕ) → j < q → pos (m j) ≡ pos (x j) +ℤ sum_to K (λ k. pos (y k) *ℤ pos (u k j)))
    → (k : ℕ) × (k < K) × (0 < y k) × (inner p (image a q x) (image a q (u k)) <ℤ pos 0)
unfolding value
direction_of p q K a x m y u f s e =
    against p K (image a q x) y (λ k. image a q (u k)) f.0 f.1 f.2 (λ i l. sym (image_m i) ∙ s i l)
  where
    image_m : (i : ℕ) → image a q m i ≡ image a q x i +ℤ sum_to K (λ k. pos (y k) *ℤ image a q (u k) i)
    image_m i =
        inner_cong q (λ j l. refl) e ∙ inner_add q (a i) _ _ ∙ ap (λ z. image a q x i +ℤ z) (inner_sum q K (a i) y (λ k j. pos (u k j)))
