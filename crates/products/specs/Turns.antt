-- One turn of each loop of the products: a term more of a sum of products, a place more of a row, a row more of a table, and a test for 0. Overflow is
-- settled here: all that the code adds up fits 64 bits. Assumes nothing.
use Rattle.std.specs.Prelude.{◌≡◌, refl, List, ℕ, ◌+◌, ◌*◌, ◌≤◌, ◌<◌, T, ℤ, pos, nat_abs, ◌+ℤ◌, ◌*ℤ◌, length, get_or, set}
use Rattle.std.proofs.Common.{sym, ◌∙◌, ap, inl, inr, mul-le-mul, arith, below_more, length-set, get_or-set_same, get_or-set_other, SFits, of_z, to_z}
use Rattle.std.proofs.Common.{to_z-of_z}
use Rattle.std.proofs.Math.IntN.{zero-*ℤ, +ℤ_idr}
use Rattle.std.specs.Int.{w32, w64}
use Rattle.linear.proofs.Cases.{split}
use Rattle.linear.proofs.Integers.{sfits_nat_abs, nat_abs_+ℤ, nat_abs_*ℤ}
use Rattle.linear.specs.Sums.{sum_to}
use Rattle.linear.specs.Gram.{gram}
use Rattle.linear.specs.Systems.{inner}
use Rattle.linear.proofs.SystemLaws.{inner_next, inner_bound}
use Rattle.definitions.specs.System.{most_unknowns, most_component, is_zero}
use Rattle.laws.proofs.TableLaws.{row_fits}
use Rattle.products.specs.Products.{
  Ahead,
  Gram,
  given,
  SmallCoefs,
  SmallRow,
  SmallRows,
  gram_limit,
  entry,
  Rows,
  Zeros,
  Written,
  SmallGram,
  partial,
  SmallProducts,
  raised,
}

-- ---- sums of products

-- the most products that are added up: the walk's rows have 16 places, rows of larger maps 32
abbrev pub most_terms : ℕ
most_terms = 32

-- the factors of so many products, of a component of a tuple and an entry of a Gram matrix, of two coefficients, or of a coefficient and a component
pub record SmallTerms (n : ℕ) (v w : ℕ → ℤ) : Type 0 where
  pub few : n ≤ most_terms
  pub left : (i : ℕ) → i < n → nat_abs (v i) ≤ most_component
  pub right : (i : ℕ) → i < n → nat_abs (w i) ≤ gram_limit

-- the code's `sum + x * y`, each number read from its bits
abbrev pub added : ℕ → ℤ → ℤ → ℤ
added sum x y = to_z w64 sum +ℤ to_z w64 (of_z w64 x) *ℤ to_z w64 (of_z w64 y)

module _ {n : ℕ} {v w : ℕ → ℤ} (s : SmallTerms n v w) where
  left_fits : (i : ℕ) → i < n → SFits w64 (v i)
  left_fits i l = sfits_nat_abs (omega (arith, s.left i l))

  right_fits : (i : ℕ) → i < n → SFits w64 (w i)
  right_fits i l = sfits_nat_abs (omega (arith, s.right i l))

  term_fits : (i : ℕ) → i < n → SFits w64 (v i *ℤ w i)
  term_fits i l = sfits_nat_abs (omega (arith, nat_abs_*ℤ (v i) (w i), mul-le-mul (s.left i l) (s.right i l)))

  sum_small : (k : ℕ) → k ≤ n → nat_abs (inner k v w) ≤ most_terms * (most_component * gram_limit)
  sum_small k l =
      omega
      (arith, s.few, inner_bound k most_component gram_limit v w (λ i m. s.left i (omega arith)) (λ i m. s.right i (omega arith)))

  pub sum_fits : (k : ℕ) → k ≤ n → SFits w64 (inner k v w)
  sum_fits k l = sfits_nat_abs (omega (arith, sum_small k l))

  -- sum is the bits of the first k terms, and x * y is the next term
  module _ (k : ℕ) {sum : ℕ} (e : sum ≡ of_z w64 (inner k v w)) where
    pub sum_value : k ≤ n → to_z w64 sum ≡ inner k v w
    sum_value l = rw e (to_z-of_z (sum_fits k l))

    module _ (l : k < n) {x y : ℤ} (f : x ≡ v k) (g : y ≡ w k) where
      added_is : added sum x y ≡ inner (k + 1) v w
      added_is = rw (f, g, to_z-of_z (left_fits k l), to_z-of_z (right_fits k l), sum_value (omega arith)) (sym (inner_next k v w))

      pub next_fits : SFits w64 (to_z w64 (of_z w64 x) *ℤ to_z w64 (of_z w64 y)) × SFits w64 (added sum x y)
      next_fits =
          (rw (f, g, to_z-of_z (left_fits k l), to_z-of_z (right_fits k l)) (term_fits k l), rw added_is (sum_fits (k + 1) (omega arith)))

      pub next_value : {r : ℤ} → r ≡ added sum x y → to_z w64 (of_z w64 r) ≡ inner (k + 1) v w
      next_value h = rw (h ∙ added_is) (to_z-of_z (sum_fits (k + 1) (omega arith)))

      pub next_sum : {r : ℤ} → r ≡ added sum x y → of_z w64 r ≡ of_z w64 (inner (k + 1) v w)
      next_sum h = ap (of_z w64) (h ∙ added_is)

-- the terms of an entry of the Gram matrix
pub column_terms : {p q : ℕ} {coefs : List ℤ} → SmallCoefs p q coefs → (i j : ℕ) → SmallTerms p (λ e. given q coefs e i) (λ e. given q coefs e j)
column_terms {q} s i j =
    record {
      few = omega (arith, s.equations);
      left = λ e l. omega (arith, s.small (e * q + i));
      right = λ e l. omega (arith, s.small (e * q + j));
    }

pub coef_fits : {p q : ℕ} {coefs : List ℤ} → SmallCoefs p q coefs → (n : ℕ) → SFits w32 (get_or coefs n (pos 0))
coef_fits s n = sfits_nat_abs (omega (arith, s.small n))

-- the terms of the product of the row at base with column j
pub row_terms : {q : ℕ} {g : List ℤ} {stack : List ℕ} {base : ℕ} → SmallGram q g → SmallRow q stack base → (j : ℕ) → j < q
    → SmallTerms q (λ i. pos (get_or stack (base + i) 0)) (λ i. entry g i j)
row_terms a r j l = record { few = omega (arith, a.unknowns); left = r.small; right = λ i k. a.small i j k l }

pub small_row : {q : ℕ} {stack : List ℕ} {height : ℕ} → SmallRows q stack height → (k : ℕ) → k < height → SmallRow q stack (k * (q + 1))
small_row {q} {height} r k l =
    record { whole = omega (arith, r.whole, row_fits (q + 1) k height l); small = λ i h. r.small k i l h }

-- ---- the products of a child

-- the code's `z + gram[i * 16 + j]`, each number read from its bits
abbrev pub child_sum : List ℤ → ℤ → ℕ → ℕ → ℤ
child_sum g z i j = to_z w64 (of_z w64 z) +ℤ to_z w64 (of_z w64 (entry g i j))

module _ {q : ℕ} {g : List ℤ} {v : ℕ → ℤ} (a : SmallGram q g) (b : SmallProducts q v) (i j : ℕ) (l : i < q) (k : j < q) {z : ℤ} (e : z ≡ v j) where
  child_is : child_sum g z i j ≡ raised g v i j
  child_is =
      let f : SFits w64 (v j) = sfits_nat_abs (omega (arith, b.small j k)) in
      let h : SFits w64 (entry g i j) = sfits_nat_abs (omega (arith, a.small i j l k)) in
      rw (e, to_z-of_z f, to_z-of_z h)

  pub child_fits : SFits w64 (child_sum g z i j)
  child_fits = rw child_is (sfits_nat_abs (omega (arith, nat_abs_+ℤ (v j) (entry g i j), a.small i j l k, b.small j k)))

  pub child_stored : to_z w64 (of_z w64 (child_sum g z i j)) ≡ raised g v i j
  child_stored = to_z-of_z child_fits ∙ child_is

-- ---- places and rows written

module _ {k : ℕ} {f : ℕ → ℤ} {table₀ : List ℤ} where
  pub written_none : Written k 0 f table₀ table₀
  written_none = record { before = λ i l. refl; new = λ j l. absurd (omega arith); after = λ i l. refl; size = refl }

  -- a place of a row up to k, that is read before place j of row k is written
  pub written_ahead : {j from : ℕ} {table : List ℤ} → Written k j f table₀ table → from ≤ k → j < 16 → entry table from j ≡ entry table₀ from j
  written_ahead {j} {from} w h l = elim (split from k) [ inl b ↦ w.before (from * 16 + j) (omega arith) | inr b ↦ w.after (from * 16 + j) (omega arith) ]

  pub written_next : {j : ℕ} {table : List ℤ} {x : ℤ} → Written k j f table₀ table → k * 16 + j < length table → x ≡ f j
      → Written k (j + 1) f table₀ (set table (k * 16 + j) x)
  written_next {j} {table} {x} w h e =
      record {
        before = λ i l. get_or-set_other table (k * 16 + j) i x (pos 0) (omega arith) ∙ w.before i l;
        new =
            below_more (λ i. entry (set table (k * 16 + j) x) k i ≡ f i) j
            (λ i l. get_or-set_other table (k * 16 + j) (k * 16 + i) x (pos 0) (omega arith) ∙ w.new i l)
            (get_or-set_same table (k * 16 + j) x (pos 0) h ∙ e);
        after = λ i l. get_or-set_other table (k * 16 + j) i x (pos 0) (omega arith) ∙ w.after i (omega arith);
        size = length-set table (k * 16 + j) x ∙ w.size;
      }

  -- a row written again
  pub written_again : {n : ℕ} {h : ℕ → ℤ} {table table' : List ℤ} → Written k n h table₀ table → Written k n f table table' → Written k n f table₀ table'
  written_again w u =
      record { before = λ i l. u.before i l ∙ w.before i l; new = u.new; after = λ i l. u.after i l ∙ w.after i l; size = u.size ∙ w.size }

  -- a row that holds what is written
  pub written_same : {n : ℕ} → ((j : ℕ) → j < n → entry table₀ k j ≡ f j) → Written k n f table₀ table₀
  written_same h = record { before = λ i l. refl; new = h; after = λ i l. refl; size = refl }

-- ---- rows of zeros

pub zeros_after : {k q : ℕ} {f : ℕ → ℤ} {table₀ table : List ℤ} → q ≤ most_unknowns → Zeros table₀ k → Written k q f table₀ table → Zeros table (k + 1)
zeros_after few z w = record { zero = λ i l. w.after i (omega arith) ∙ z.zero i (omega arith) }

pub zeros_summed : {q : ℕ} (g : List ℤ) (x : ℕ → ℕ) {k : ℕ} {c : List ℤ} → Zeros c k → (j : ℕ) → j < q → entry c k j ≡ partial g x 0 j
unfolding inner sum_to
zeros_summed g x {k} z j l = z.zero (k * 16 + j) (omega arith)

-- a component of 0 adds nothing
pub partial_skip : (g : List ℤ) (x : ℕ → ℕ) (n j : ℕ) → x n ≡ 0 → partial g x n j ≡ partial g x (n + 1) j
partial_skip g x n j e = sym (inner_next n (λ i. pos (x i)) (λ i. entry g i j) ∙ rw (e, zero-*ℤ (entry g n j)) (+ℤ_idr (partial g x n j)))

pub rows_next : {k q : ℕ} {f : ℕ → ℕ → ℤ} {table₀ table : List ℤ} → q ≤ most_unknowns → Rows k q f table₀ → Written k q (f k) table₀ table
    → Rows (k + 1) q f table
rows_next {k} few r w i j l jq =
    elim (split i k) [
      | inl h ↦ w.before (i * 16 + j) (omega arith) ∙ r i j h jq
      | inr h ↦ let e : i ≡ k = omega arith in rw e (w.new j jq)
    ]

-- ---- the rows of a table that are still to be written

pub ahead_all : {q : ℕ} {f : ℕ → ℕ → ℤ} {table : List ℤ} → Rows q q f table → Ahead 0 q f table
ahead_all r = record { rows = λ i j _ l k. r i j l k }

pub ahead_next : {k q : ℕ} {f : ℕ → ℕ → ℤ} {h : ℕ → ℤ} {table₀ table : List ℤ} → q ≤ most_unknowns → Ahead k q f table₀ → Written k q h table₀ table
    → Ahead (k + 1) q f table
ahead_next few a w = record { rows = λ i j l m n. w.after (i * 16 + j) (omega arith) ∙ a.rows i j (omega arith) m n }

-- a table of zeros is the Gram matrix of no equations
pub zeros_gram : {q : ℕ} {coefs g : List ℤ} → Zeros g 0 → Gram 0 q coefs g
unfolding gram inner sum_to
zeros_gram z = record { entries = λ i j _ _. z.zero (i * 16 + j) (omega arith) }

-- ---- the test for 0, which is one of bits

pub zero_bits : (z : ℤ) → SFits w64 z → of_z w64 z ≡ 0 → T (is_zero z)
zero_bits z f e = let h = sym (to_z-of_z f) ∙ ap (to_z w64) e in rw h tt
