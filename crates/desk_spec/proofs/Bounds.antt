-- For code: images and inner products of the second walk fit 64 bits, and how they change when a generator is added. Assumes nothing.
use Rattle.std.specs.Prelude.{◌≡◌, refl, ℕ, ◌*◌, ◌+◌, ◌^◌, ◌≤◌, ◌<◌, nat_abs, ◌+ℤ◌}
use Rattle.std.proofs.Common.{◌∙◌, ap₂, mul-le-mul, mul-le-mul_right, arith}
use Rattle.std.proofs.Math.IntN.{pos}
use Rattle.linear.proofs.Gram.{inner_comm}
use Rattle.linear.proofs.SystemLaws.{inner_add, inner_bound, inner_cong, value_sum}
use Rattle.linear.specs.Systems.{inner, value}
use Rattle.definitions.specs.System.{coef, coef_limit, image_of, most_component, most_equations, most_unknowns}
use Rattle.laws.proofs.TableLaws.{row_before}
use Rattle.desk_spec.specs.Desks.{Desk, generator, generator_count, image_limit, plus, second_group, towards_generator}
use Rattle.desk_spec.specs.Valid.{DeskShaped}

module _ (d : Desk) where
  -- a row kept beside its image: the image of a child is the parent's plus the generator's
  pub image_plus : (x u : ℕ → ℕ) (i : ℕ) → image_of (second_group d) (plus x u) i ≡ image_of (second_group d) x i +ℤ image_of (second_group d) u i
  image_plus x u i = value_sum (coef (second_group d) i) d.q x u (plus x u) (λ j l. refl)

  -- a row kept beside its inner products: those of a child by generator k are the parent's plus the Gram entries of the generators' images
  pub towards_plus : (x : ℕ → ℕ) (k j : ℕ)
      → towards_generator d (plus x (generator d k)) j
      ≡ towards_generator d x j +ℤ inner d.p (image_of (second_group d) (generator d k)) (image_of (second_group d) (generator d j))
  towards_plus x k j =
      inner_comm d.p _ _
      ∙ inner_cong d.p {v = image_of (second_group d) (generator d j)} {v' = image_of (second_group d) (generator d j)} (λ i l. refl)
      (λ i l. image_plus x (generator d k) i)
      ∙ inner_add d.p (image_of (second_group d) (generator d j)) (image_of (second_group d) x) (image_of (second_group d) (generator d k))
      ∙ ap₂ ◌+ℤ◌ (inner_comm d.p _ _) (inner_comm d.p _ _)

module _ (d : Desk) (size : ℕ) (g : DeskShaped d size) (x : ℕ → ℕ) (small : (j : ℕ) → j < d.q → x j ≤ most_component) where
  -- an image is at most 16 * 10,000 * 1,000,000 in size
  pub image_bound : (i : ℕ) → i < d.p → nat_abs (image_of (second_group d) x i) ≤ d.q * (coef_limit * most_component)
  unfolding value
  image_bound i ip =
      inner_bound d.q coef_limit most_component (coef (second_group d) i) (λ j. pos (x j))
      (λ k kq. g.range (i * d.q + k) (omega (arith, g.coefs, row_before d.q d.p i 0 k ip kq))) small

  -- p * (q * (coef_limit * most_component) * image_limit), which for p = 8 and q = 16 is 8,960,000,000,000,000,000 and less than 2 ^ 63
  pub towards_bound : (j : ℕ) → j < generator_count d → nat_abs (towards_generator d x j) ≤ d.p * (d.q * (coef_limit * most_component) * image_limit)
  towards_bound j jn = inner_bound d.p (d.q * (coef_limit * most_component)) image_limit _ _ (λ i ip. image_bound i ip) (λ i ip. g.images j i jn ip)

  pub towards_fits : (j : ℕ) → j < generator_count d → nat_abs (towards_generator d x j) < 2 ^ 63
  towards_fits j jn =
      let most = mul-le-mul g.p_few (mul-le-mul_right image_limit (mul-le-mul_right (coef_limit * most_component) g.q_few)) in
      omega (arith, towards_bound j jn, most, products_fit)
    where
      products_fit : most_equations * (most_unknowns * (coef_limit * most_component) * image_limit) < 2 ^ 63
      products_fit = omega arith

-- the Gram entries of the generators' images: at most 8 * 7,000,000 * 7,000,000
pub gram_fits : (d : Desk) (size : ℕ) → DeskShaped d size → (k j : ℕ) → k < generator_count d → j < generator_count d
    → nat_abs (inner d.p (image_of (second_group d) (generator d k)) (image_of (second_group d) (generator d j))) ≤ 392000000000000
gram_fits d size g k j kn jn =
    let bound = inner_bound d.p image_limit image_limit (image_of (second_group d) (generator d k)) (image_of (second_group d) (generator d j))
    (λ i ip. g.images k i kn ip) (λ i ip. g.images j i jn ip) in
    let most = mul-le-mul_right (image_limit * image_limit) g.p_few in
    omega (arith, bound, most)
