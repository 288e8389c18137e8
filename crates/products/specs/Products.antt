-- What the contracts of the products cite: small coefficients and rows, tables with rows of 16 integers, the Gram matrix of the coefficients in such a table,
-- and the inner products of the rows on the stack with every column. Assumes nothing.
use Rattle.std.specs.Prelude.{◌≡◌, List, ℕ, ◌+◌, ◌*◌, ◌≤◌, ◌<◌, ℤ, pos, nat_abs, ◌+ℤ◌, length, get_or}
use Rattle.linear.specs.Systems.{inner}
use Rattle.linear.specs.Gram.{gram}
use Rattle.definitions.specs.System.{most_equations, most_unknowns, coef_limit, most_component}
use Rattle.definitions.specs.Tables.{at}

-- ---- sizes

-- the coefficient of unknown j in equation i, of those given row by row
abbrev pub given : ℕ → List ℤ → ℕ → ℕ → ℤ
given q coefs i j = get_or coefs (i * q + j) (pos 0)

-- coefficients within the limits of document 01
pub record SmallCoefs (p q : ℕ) (coefs : List ℤ) : Type 0 where
  pub equations : p ≤ most_equations
  pub unknowns : q ≤ most_unknowns
  pub whole : p * q ≤ length coefs
  pub small : (n : ℕ) → nat_abs (get_or coefs n (pos 0)) ≤ coef_limit

-- a tuple of the stack table, from place base
pub record SmallRow (q : ℕ) (stack : List ℕ) (base : ℕ) : Type 0 where
  pub whole : base + q ≤ length stack
  pub small : (i : ℕ) → i < q → get_or stack (base + i) 0 ≤ most_component

-- the rows below height
pub record SmallRows (q : ℕ) (stack : List ℕ) (height : ℕ) : Type 0 where
  pub few : height ≤ q
  pub whole : height * (q + 1) ≤ length stack
  pub small : (k i : ℕ) → k < height → i < q → at stack (q + 1) k i ≤ most_component

-- the largest size of an inner product of two columns, and of the image of a tuple and a column
abbrev pub gram_limit : ℕ
gram_limit = most_equations * (coef_limit * coef_limit)

abbrev pub product_limit : ℕ
product_limit = most_unknowns * (most_component * gram_limit)

-- ---- tables with rows of 16 numbers

-- number j of row k
abbrev pub entry : List ℤ → ℕ → ℕ → ℤ
entry table k j = get_or table (k * 16 + j) (pos 0)

-- the first n rows hold f at their first q places
abbrev pub Rows : ℕ → ℕ → (ℕ → ℕ → ℤ) → List ℤ → Type 0
Rows n q f table = (k j : ℕ) → k < n → j < q → entry table k j ≡ f k j

-- row k has been written, with f at its first n places, and nothing else
pub record Written (k n : ℕ) (f : ℕ → ℤ) (table₀ table : List ℤ) : Type 0 where
  pub before : (i : ℕ) → i < k * 16 → get_or table i (pos 0) ≡ get_or table₀ i (pos 0)
  pub new : (j : ℕ) → j < n → entry table k j ≡ f j
  pub after : (i : ℕ) → k * 16 + n ≤ i → get_or table i (pos 0) ≡ get_or table₀ i (pos 0)
  pub size : length table ≡ length table₀

-- row k holds f at its first q places
pub record Filled (q : ℕ) (f : ℕ → ℤ) (k : ℕ) (table : List ℤ) : Type 0 where
  pub holds : (j : ℕ) → j < q → entry table k j ≡ f j

-- the rows from k on, up to row q, hold f at their first q places
pub record Ahead (k q : ℕ) (f : ℕ → ℕ → ℤ) (table : List ℤ) : Type 0 where
  pub rows : (i j : ℕ) → k ≤ i → i < q → j < q → entry table i j ≡ f i j

-- row k and those after it hold zeros
pub record Zeros (table : List ℤ) (k : ℕ) : Type 0 where
  pub zero : (i : ℕ) → k * 16 ≤ i → get_or table i (pos 0) ≡ pos 0

-- ---- the Gram matrix, and the products of the rows on the stack

pub record Gram (p q : ℕ) (coefs g : List ℤ) : Type 0 where
  pub entries : Rows q q (gram p (given q coefs)) g

pub record SmallGram (q : ℕ) (g : List ℤ) : Type 0 where
  pub unknowns : q ≤ most_unknowns
  pub small : (i j : ℕ) → i < q → j < q → nat_abs (entry g i j) ≤ gram_limit

-- the sum of the first n rows of g, row i taken x i times: its number j
abbrev pub partial : List ℤ → (ℕ → ℕ) → ℕ → ℕ → ℤ
partial g x n j = inner n (λ i. pos (x i)) (λ i. entry g i j)

-- level k of c holds it
pub record Summed (q : ℕ) (g : List ℤ) (x : ℕ → ℕ) (n k : ℕ) (c : List ℤ) : Type 0 where
  pub sums : (j : ℕ) → j < q → entry c k j ≡ partial g x n j

-- the sum of all q rows
abbrev pub combine : ℕ → List ℤ → (ℕ → ℕ) → ℕ → ℤ
combine q g x j = partial g x q j

-- level k of c holds the sum that the tuple in row k of the stack makes of the rows of g
pub record Combined (q : ℕ) (g : List ℤ) (stack : List ℕ) (height : ℕ) (c : List ℤ) : Type 0 where
  pub size : length c ≡ 256
  pub levels : Rows height q (λ k. combine q g (at stack (q + 1) k)) c

-- v are those of one tuple x
pub record Products (q : ℕ) (g : List ℤ) (x : ℕ → ℕ) (v : ℕ → ℤ) : Type 0 where
  pub product : (j : ℕ) → j < q → v j ≡ combine q g x j

pub record SmallProducts (q : ℕ) (v : ℕ → ℤ) : Type 0 where
  pub small : (j : ℕ) → j < q → nat_abs (v j) ≤ product_limit

-- the products v of a tuple, with row i of g added: those of the tuple with unknown i raised (`combine_raise` of ProductLaws)
abbrev pub raised : List ℤ → (ℕ → ℤ) → ℕ → ℕ → ℤ
raised g v i j = v j +ℤ entry g i j

-- level k of c is there for a child by unknown i of the row at level `from`, and the sums that it takes fit 64 bits
pub record ChildRoom (q from k i : ℕ) (c g : List ℤ) : Type 0 where
  pub size : length c ≡ 256
  pub below : from ≤ k
  pub level : k < 16
  pub unknown : i < q
  pub gram_small : SmallGram q g
  pub parent_small : SmallProducts q (entry c from)
