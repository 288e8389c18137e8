-- What the contracts of the products come to. Sums of rows of the Gram matrix are inner products with the columns; they are small, and of a child are what
-- `write_child` writes; and the rows of a stack stay cached while it shrinks and grows. Assumes nothing.
use Rattle.std.specs.Prelude.{◌≡◌, refl, List, ℕ, ◌+◌, ◌*◌, ◌≤◌, ◌<◌, ℤ, ◌+ℤ◌, ◌*ℤ◌, length}
use Rattle.std.proofs.Math.Path.{sym, ap}
use Rattle.std.proofs.Common.{◌∙◌, ap₂, inl, inr, arith}
use Rattle.std.proofs.Math.IntN.{pos}
use Rattle.linear.proofs.Cases.{order}
use Rattle.linear.proofs.Sums.{sum_cong}
use Rattle.linear.specs.Tuples.{Same, raise, unit}
use Rattle.linear.specs.Systems.{inner, value}
use Rattle.linear.proofs.SystemLaws.{inner_cong, inner_bound, value_sum, value_unit}
use Rattle.linear.specs.Gram.{product}
use Rattle.linear.proofs.Gram.{inner_comm, gram_bound, product_sum}
use Rattle.definitions.specs.System.{most_unknowns, coef_limit, most_component}
use Rattle.definitions.specs.Tables.{at, write_row}
use Rattle.laws.proofs.TableLaws.{row_other, row_tuple}
use Rattle.products.specs.Products.{given, SmallCoefs, gram_limit, entry, Written, Gram, SmallGram, combine, Combined, Products, SmallProducts, raised}
use Rattle.products.specs.Turns.{rows_next}

-- ---- the Gram matrix of a system

module _ {p q : ℕ} {coefs g : List ℤ} where
  pub gram_small : SmallCoefs p q coefs → Gram p q coefs g → SmallGram q g
  gram_small s h =
      record {
        unknowns = s.unknowns;
        small =
            λ i j l k. rw (h.entries i j l k)
            (omega (arith, s.equations, gram_bound p (given q coefs) i j coef_limit (λ e _. s.small _) (λ e _. s.small _)));
      }

  pub combine_product : Gram p q coefs g → (x : ℕ → ℕ) (j : ℕ) → j < q → combine q g x j ≡ product p q (given q coefs) x j
  unfolding inner
  combine_product h x j l = sum_cong q (λ i k. ap (λ z. pos (x i) *ℤ z) (h.entries i j k l)) ∙ sym (product_sum p q (given q coefs) x j)

-- ---- the products of one tuple

module _ (q : ℕ) (g : List ℤ) where
  combine_value : (x : ℕ → ℕ) (j : ℕ) → combine q g x j ≡ value (λ i. entry g i j) q x
  unfolding value
  combine_value x j = inner_comm q _ _

  combine_same : {x y : ℕ → ℕ} → Same q x y → (j : ℕ) → combine q g x j ≡ combine q g y j
  combine_same e j = inner_cong q (λ i l. ap pos (e i l)) (λ i l. refl)

  -- raising unknown i adds row i
  combine_raise : (x : ℕ → ℕ) (i j : ℕ) → i < q → combine q g (raise x i) j ≡ combine q g x j +ℤ entry g i j
  combine_raise x i j l =
      combine_value (raise x i) j
      ∙ value_sum (λ k. entry g k j) q x (unit i) (raise x i) (λ n m. refl)
      ∙ ap₂ ◌+ℤ◌ (sym (combine_value x j)) (value_unit (λ k. entry g k j) i q l)

module _ {q : ℕ} {g : List ℤ} where
  -- those of a row on the stack
  pub level_products : {stack : List ℕ} {height : ℕ} {c : List ℤ} {k : ℕ} {x : ℕ → ℕ} → Combined q g stack height c → k < height → Same q (at stack (q + 1) k) x
      → Products q g x (entry c k)
  level_products {k} d l e = record { product = λ j h. d.levels k j l h ∙ combine_same q g e j }

  pub products_small : {x : ℕ → ℕ} {v : ℕ → ℤ} → SmallGram q g → ((i : ℕ) → i < q → x i ≤ most_component) → Products q g x v → SmallProducts q v
  products_small {x} a h d =
      record {
        small =
            λ j l. rw (d.product j l)
            (omega (arith, a.unknowns, inner_bound q most_component gram_limit (λ i. pos (x i)) (λ i. entry g i j) h (λ i k. a.small i j k l)));
      }

-- ---- the rows of a stack that changes

module _ {q : ℕ} {g : List ℤ} where
  pub combined_less : {stack : List ℕ} {height n : ℕ} {c : List ℤ} → Combined q g stack height c → n ≤ height → Combined q g stack n c
  combined_less d h = record { size = d.size; levels = λ k j l. d.levels k j (omega arith) }

  combined_same : {stack stack' : List ℕ} {height : ℕ} {c : List ℤ} → ((k i : ℕ) → k < height → i < q → at stack' (q + 1) k i ≡ at stack (q + 1) k i)
      → Combined q g stack height c → Combined q g stack' height c
  combined_same e d = record { size = d.size; levels = λ k j l h. d.levels k j l h ∙ combine_same q g (λ i u. sym (e k i l u)) j }

  -- a child of x by unknown i on top of n rows: what `write_child` ensures
  pub combined_child : {x : ℕ → ℕ} {v : ℕ → ℤ} {stack : List ℕ} {n : ℕ} {c₀ c : List ℤ} → Products q g x v → (i : ℕ) → i < q → (marks : ℕ) → q ≤ most_unknowns
      → n * (q + 1) + (q + 1) ≤ length stack → Combined q g stack n c₀ → Written n q (raised g v i) c₀ c
      → Combined q g (write_row q stack n (raise x i) marks) (n + 1) c
  combined_child {x} {stack} {n} {c₀} {c} p i l marks few room d w =
      let grown : List ℕ = write_row q stack n (raise x i) marks in
      let kept : Combined q g grown n c₀ = combined_same (λ k j u t. row_other q stack n (raise x i) marks k j (omega arith) (omega arith)) d in
      record {
        size = w.size ∙ d.size;
        levels = rows_next {f = λ k. combine q g (at grown (q + 1) k)} {table₀ = c₀} {table = c} few kept.levels (record {
          before = w.before;
          new =
              λ j k. w.new j k ∙ ap (λ z. z +ℤ entry g i j) (p.product j k) ∙ sym (combine_raise q g x i j l)
              ∙ combine_same q g (λ e u. sym (row_tuple q stack n (raise x i) marks room e u)) j;
          after = w.after;
          size = w.size;
        });
      }

  -- the child by unknown i of the row x at level n, in that row's place
  pub combined_over : {x : ℕ → ℕ} {stack : List ℕ} {height n : ℕ} {c₀ c : List ℤ} → Products q g x (entry c₀ n) → n < height → (i : ℕ) → i < q → (marks : ℕ)
      → q ≤ most_unknowns → n * (q + 1) + (q + 1) ≤ length stack → Combined q g stack height c₀ → Written n q (raised g (entry c₀ n) i) c₀ c
      → Combined q g (write_row q stack n (raise x i) marks) height c
  combined_over {x} {stack} {height} {n} {c₀} {c} p h i l marks few room d w =
      record {
        size = w.size ∙ d.size;
        levels = λ k j u t. elim (order k n) [
          | inl b ↦ w.before (k * 16 + j) (omega arith) ∙ d.levels k j u t
              ∙ combine_same q g (λ e v. sym (row_other q stack n (raise x i) marks k e (omega arith) (omega arith))) j
          | inr o ↦ elim o [
            | inl e ↦ rw e (w.new j t ∙ ap (λ z. z +ℤ entry g i j) (p.product j t) ∙ sym (combine_raise q g x i j l)
                ∙ combine_same q g (λ e v. sym (row_tuple q stack n (raise x i) marks room e v)) j)
            | inr b ↦ w.after (k * 16 + j) (omega arith) ∙ d.levels k j u t
                ∙ combine_same q g (λ e v. sym (row_other q stack n (raise x i) marks k e (omega arith) (omega arith))) j
          ]
        ];
      }
