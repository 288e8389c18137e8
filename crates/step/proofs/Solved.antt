-- Solutions by their inner products with the columns. Assumes nothing.
use Rattle.std.specs.Prelude.{◌≡◌, List, ℕ, ◌<◌, T, ℤ}
use Rattle.std.proofs.Common.{sym, ◌∙◌, ap, inl, inr}
use Rattle.linear.specs.Tests.{all_to}
use Rattle.linear.proofs.TestLaws.{T-dec, T-same, all_at, all_from, all_same}
use Rattle.linear.proofs.Gram.{product_zero, zero_solution}
use Rattle.definitions.specs.System.{Kind, System, coef, towards, is_zero, solves}
use Rattle.laws.proofs.SystemLaws.{solves_solution, fails_fails}
use Rattle.calls.specs.Paper.{system_with}
use Rattle.products.specs.Products.{Gram, Products}
use Rattle.products.specs.ProductLaws.{combine_product}
use Rattle.laws.proofs.SystemLaws.{is_zero_lem}

-- a tuple is a solution just where its image is orthogonal to every column
solves_products : (m : System) (x : ℕ → ℕ) → solves m x ≡ all_to m.q (λ j. is_zero (towards m x j))
solves_products m x = T-same (solves m x) _ to from
  where
    to : T (solves m x) → T (all_to m.q (λ j. is_zero (towards m x j)))
    to h = all_from m.q _ (λ j l. rw (product_zero m.p m.q (coef m) x (solves_solution m x h) j) tt)

    from : T (all_to m.q (λ j. is_zero (towards m x j))) → T (solves m x)
    from h =
        let s = zero_solution m.p m.q (coef m) x (λ j l. is_zero_lem (towards m x j) (all_at m.q _ h j l)) in
        elim (T-dec (solves m x)) [ inl y ↦ y | inr n ↦ let (i, l, ne) = fails_fails m x n in absurd (ne (s i l)) ]

-- what `vanish` ensures, for every system that has this Gram matrix
module _ {p q : ℕ} {coefs g : List ℤ} {x : ℕ → ℕ} {v : ℕ → ℤ} (h : Gram p q coefs g) (d : Products q g x v) (k : Kind) (limit : ℕ) where
  pub product_towards : (j : ℕ) → j < q → v j ≡ towards (system_with k p q coefs limit) x j
  product_towards j l = d.product j l ∙ combine_product h x j l

  pub vanish_solves : all_to q (λ j. is_zero (v j)) ≡ solves (system_with k p q coefs limit) x
  vanish_solves = all_same q _ _ (λ j l. ap is_zero (product_towards j l)) ∙ sym (solves_products (system_with k p q coefs limit) x)
