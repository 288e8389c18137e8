-- What code may find by other means, and must then be what the stage says: the next pair, from what makes it the next one (for the next degree see
-- `degree_unique` of Tests). So code may go through lists of places by sign and by ranges of one degree, as it likes. Assumes nothing.
use Rattle.std.specs.Prelude.{◌≡◌, ℕ, ◌+◌, ◌≤◌, ◌<◌, ℤ}
use Rattle.std.proofs.Common.{arith}
use Rattle.linear.specs.Tuples.{total}
use Rattle.engine_spec.specs.Search.{Before}
use Rattle.engine_spec.proofs.Search.{none_unique, pair_unique}
use Rattle.engine_spec.specs.Sound.{Sorted}
use Rattle.engine_spec.specs.Stage.{Stage, above, below, is_due, row}
use Rattle.engine_spec.specs.Tests.{Pair}
use Rattle.engine_spec.proofs.Tests.{due_is, due_pair, is_due_lem}

module _ (q : ℕ) (c : ℕ → ℤ) (s : Stage) where
  -- a pair of the present degree
  abbrev pub Due : ℕ → ℕ → Type 0
  Due h k = Pair q c (row q s) h k × (total (row q s h) q + total (row q s k) q ≡ s.degree)

  -- it is not before the place at which the pairs that are left begin
  abbrev pub Late : ℕ → ℕ → Type 0
  Late h k = ¬ (Before s.upper s.lower h k)

  -- the pair that is next
  pub next_pair : (h k : ℕ) → h < s.rows → k < s.rows → Due h k → Late h k
      → ((i j : ℕ) → i < s.rows → j < s.rows → Before h k i j → Late i j → ¬ (Due i j)) → (above q c s ≡ h) × (below q c s ≡ k)
  next_pair h k hn kn (pair, e) late first =
      pair_unique s.rows (is_due q c (row q s) s.degree) s.upper s.lower h k hn kn (due_is q c (row q s) h k s.degree pair e) late
      (λ i j il jl b l t. first i j il jl b l (due_pair q c (row q s) i j s.degree t, is_due_lem q c (row q s) i j s.degree t))

  -- no pair of the present degree is left
  pub no_pair : ((i j : ℕ) → i < s.rows → j < s.rows → Late i j → ¬ (Due i j)) → s.rows ≤ above q c s
  no_pair none =
      none_unique s.rows (is_due q c (row q s) s.degree) s.upper s.lower
      (λ i j il jl l t. none i j il jl l (due_pair q c (row q s) i j s.degree t, is_due_lem q c (row q s) i j s.degree t))

-- rows of one degree stand together: of three rows in the order of the table, the middle one has the degree that the outer two have
pub together : (q n : ℕ) (row : ℕ → ℕ → ℕ) → Sorted q n row → (i j k : ℕ) → i ≤ j → j ≤ k → k < n → total (row i) q ≡ total (row k) q
    → total (row j) q ≡ total (row i) q
together q n row sorted i j k ij jk kn e = omega (arith, sorted i j ij (omega arith), sorted j k jk kn)
