-- Theorems about what specs/Gram.antt defines. Assumes nothing.
use Rattle.std.specs.Prelude.{◌≡◌, refl, ℕ, ◌*◌, ◌≤◌, ◌<◌, ℤ, negsuc, nat_abs, ◌*ℤ◌}
use Rattle.std.proofs.Common.{◌∙◌, inl, inr}
use Rattle.std.proofs.Math.Path.{ap, ap₂}
use Rattle.std.proofs.Math.IntN.{pos, ◌+ℤ◌, *ℤ_comm, *ℤ-zero}
use Rattle.std.specs.Int.Signed.{<ℤ_irrefl}
use Rattle.linear.specs.Sums.{sum_to}
use Rattle.linear.proofs.Sums.{sum_cong, sum_zero}
use Rattle.linear.specs.Tuples.{unit, raise}
use Rattle.linear.specs.Systems.{inner, value, image, Solution}
use Rattle.linear.proofs.SystemLaws.{inner_self, inner_sum, inner_add, inner_cong, inner_zero, inner_bound, value_sum, value_unit, solved}
use Rattle.linear.specs.Gram.{gram, product, sample}

computes : gram 1 sample 0 1 ≡ negsuc 5
unfolding gram inner sum_to
computes = refl

pub inner_comm : (p : ℕ) (v w : ℕ → ℤ) → inner p v w ≡ inner p w v
unfolding inner
inner_comm p v w = sum_cong p (λ i l. *ℤ_comm (v i) (w i))

pub gram_sym : (p : ℕ) (a : ℕ → ℕ → ℤ) (i j : ℕ) → gram p a i j ≡ gram p a j i
unfolding gram
gram_sym p a i j = inner_comm p _ _

module _ (p q : ℕ) (a : ℕ → ℕ → ℤ) (x : ℕ → ℕ) where
  -- the image is the sum of the columns, column i taken x i times
  inner_image : (v : ℕ → ℤ) → inner p v (image a q x) ≡ sum_to q (λ i. pos (x i) *ℤ inner p v (λ e. a e i))
  unfolding value inner
  inner_image v =
      inner_cong p {v = v} {v' = v} (λ e l. refl) (λ e l. sum_cong q (λ i k. *ℤ_comm (a e i) (pos (x i)))) ∙ inner_sum p q v x (λ i e. a e i)

  pub product_sum : (j : ℕ) → product p q a x j ≡ sum_to q (λ i. pos (x i) *ℤ gram p a i j)
  unfolding gram
  product_sum j = inner_comm p _ _ ∙ inner_image (λ e. a e j) ∙ sum_cong q (λ i k. ap (λ z. pos (x i) *ℤ z) (inner_comm p _ _))

  pub product_raise : (i j : ℕ) → i < q → product p q a (raise x i) j ≡ product p q a x j +ℤ gram p a i j
  unfolding gram
  product_raise i j l =
      inner_comm p _ _
      ∙ inner_cong p {v = λ e. a e j} {v' = λ e. a e j} (λ e k. refl) (λ e k. image_raise e)
      ∙ inner_add p (λ e. a e j) (image a q x) (λ e. a e i)
      ∙ ap₂ ◌+ℤ◌ (inner_comm p _ _) (inner_comm p _ _)
    where
      image_raise : (e : ℕ) → image a q (raise x i) e ≡ image a q x e +ℤ a e i
      image_raise e = value_sum (a e) q x (unit i) (raise x i) (λ n m. refl) ∙ ap (λ z. image a q x e +ℤ z) (value_unit (a e) i q l)

  pub product_zero : Solution p q a x → (j : ℕ) → product p q a x j ≡ pos 0
  product_zero s j = inner_comm p _ _ ∙ inner_zero p _ _ s

  pub zero_solution : ((j : ℕ) → j < q → product p q a x j ≡ pos 0) → Solution p q a x
  zero_solution h =
      elim (solved p q a x) [
        | inl s ↦ s
        | inr (e, l, ne) ↦ absurd (<ℤ_irrefl (rw self at (inner_self p (image a q x) e l ne)))
      ]
    where
      self : inner p (image a q x) (image a q x) ≡ pos 0
      self = inner_image (image a q x) ∙ sum_cong q (λ j k. rw (h j k) (*ℤ-zero (pos (x j)))) ∙ sum_zero q

  pub product_bound : (j A B : ℕ) → j < q → ((e i : ℕ) → e < p → i < q → nat_abs (a e i) ≤ A) → ((i : ℕ) → i < q → x i ≤ B)
      → nat_abs (product p q a x j) ≤ p * ((q * (A * B)) * A)
  unfolding value
  product_bound j A B l ha hx =
      inner_bound p (q * (A * B)) A _ _ (λ e k. inner_bound q A B (a e) (λ i. pos (x i)) (λ i. ha e i k) hx) (λ e k. ha e j k l)

pub gram_bound : (p : ℕ) (a : ℕ → ℕ → ℤ) (i j A : ℕ) → ((e : ℕ) → e < p → nat_abs (a e i) ≤ A) → ((e : ℕ) → e < p → nat_abs (a e j) ≤ A)
    → nat_abs (gram p a i j) ≤ p * (A * A)
unfolding gram
gram_bound p a i j A hi hj = inner_bound p A A _ _ hi hj
