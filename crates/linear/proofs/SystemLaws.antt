-- Laws of inner products and of the left sides of equations. Assumes nothing.
use Rattle.std.specs.Prelude.{◌≡◌, refl, ◌≢◌, ◌⊎◌, ℕ, zero, suc, ◌+◌, ◌*◌, ◌≤◌, ◌<◌, ℤ, pos, nat_abs, ◌+ℤ◌, ◌*ℤ◌, ◌<ℤ◌}
use Rattle.std.proofs.Common.{◌∙◌, ap, inl, inr, mul-le-mul, arith}
use Rattle.std.proofs.Math.IntN.{*ℤ-zero, +ℤ_idl, +ℤ_idr}
use Rattle.std.specs.Int.Signed.{<ℤ-≤ℤ_trans}
use Rattle.linear.proofs.Integers.{*ℤ-+ℤ, *ℤ-left-comm, *ℤ-one', square_nonneg, square_pos, nat_abs_*ℤ}
use Rattle.linear.specs.Sums.{sum_to}
use Rattle.linear.proofs.Sums.{sum_next, sum_cong, sum_zero, sum_add, sum_scale, sum_swap, term_le_sum, sum_bound, zeros}
use Rattle.linear.specs.Cases.{below_suc}
use Rattle.linear.specs.Tuples.{Same, unit}
use Rattle.linear.specs.TupleLaws.{unit_same, unit_other}
use Rattle.linear.specs.Systems.{inner, value, image, Solution, Fails}

-- ---- inner products

pub inner_self : (p : ℕ) (v : ℕ → ℤ) (i : ℕ) → i < p → v i ≢ pos 0 → pos 0 <ℤ inner p v v
unfolding inner
inner_self p v i l h = <ℤ-≤ℤ_trans (square_pos h) (term_le_sum p {f = λ i. v i *ℤ v i} (λ j k. square_nonneg (v j)) i l)

pub inner_sum : (p K : ℕ) (v : ℕ → ℤ) (y : ℕ → ℕ) (w : ℕ → ℕ → ℤ)
    → inner p v (λ i. sum_to K (λ k. pos (y k) *ℤ w k i)) ≡ sum_to K (λ k. pos (y k) *ℤ inner p v (w k))
unfolding inner
inner_sum p K v y w = simp (← sum_scale) (sum_swap p K (λ i k. v i *ℤ (pos (y k) *ℤ w k i)) ∙ simp *ℤ-left-comm)

pub inner_add : (p : ℕ) (v w w' : ℕ → ℤ) → inner p v (λ i. w i +ℤ w' i) ≡ inner p v w +ℤ inner p v w'
unfolding inner
inner_add p v w w' = simp (*ℤ-+ℤ, sum_add)

pub inner_cong : (p : ℕ) {v v' w w' : ℕ → ℤ} → ((i : ℕ) → i < p → v i ≡ v' i) → ((i : ℕ) → i < p → w i ≡ w' i) → inner p v w ≡ inner p v' w'
unfolding inner
inner_cong p e h = sum_cong p (λ i l. rw (e i l, h i l))

pub inner_zero : (p : ℕ) (v w : ℕ → ℤ) → ((i : ℕ) → i < p → w i ≡ pos 0) → inner p v w ≡ pos 0
unfolding inner
inner_zero p v w h = sum_cong p (λ i l. rw (h i l) (*ℤ-zero (v i))) ∙ sum_zero p

-- one more term, as code counts
pub inner_next : (n : ℕ) (v w : ℕ → ℤ) → inner (n + 1) v w ≡ inner n v w +ℤ v n *ℤ w n
unfolding inner
inner_next n v w = sum_next n _

pub inner_bound : (n A B : ℕ) (v w : ℕ → ℤ) → ((i : ℕ) → i < n → nat_abs (v i) ≤ A) → ((i : ℕ) → i < n → nat_abs (w i) ≤ B)
    → nat_abs (inner n v w) ≤ n * (A * B)
unfolding inner
inner_bound n A B v w ha hb = sum_bound n (A * B) _ (λ i l. rw nat_abs_*ℤ (mul-le-mul (ha i l) (hb i l)))

-- ---- the left side of one equation

pub value_same : (c : ℕ → ℤ) (q : ℕ) {x y : ℕ → ℕ} → Same q x y → value c q x ≡ value c q y
unfolding value
value_same c q h = inner_cong q (λ j l. refl) (λ j l. ap pos (h j l))

pub value_sum : (c : ℕ → ℤ) (q : ℕ) (x y z : ℕ → ℕ) → ((j : ℕ) → j < q → z j ≡ x j + y j) → value c q z ≡ value c q x +ℤ value c q y
unfolding value
value_sum c q x y z h =
    inner_cong q (λ j l. refl) (λ j l. ap pos (h j l)) ∙ inner_add q c (λ j. pos (x j)) (λ j. pos (y j))

pub value_unit : (c : ℕ → ℤ) (j q : ℕ) → j < q → value c q (unit j) ≡ c j
unfolding value inner sum_to
value_unit c j zero l = absurd (omega arith)
value_unit c j (suc q) l =
    elim (below_suc l) [
      | inl k ↦ rw (unit_other j q (omega arith), *ℤ-zero, +ℤ_idr) (value_unit c j q k)
      | inr e ↦ rw (← e, inner_zero j c (λ i. pos (unit j i)) (λ i h. ap pos (unit_other j i (omega arith))), unit_same j, *ℤ-one', +ℤ_idl)
    ]

-- ---- systems

-- each equation holds, or one fails
pub solved : (p q : ℕ) (a : ℕ → ℕ → ℤ) (x : ℕ → ℕ) → Solution p q a x ⊎ Fails p q a x
solved p q a x = zeros p (image a q x)
