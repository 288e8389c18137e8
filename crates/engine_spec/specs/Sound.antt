-- What holds of a stage between two turns, and that a turn keeps it. Assumes nothing.
use Rattle.std.specs.Prelude.{◌≡◌, ◌⊎◌, ℕ, ◌+◌, ◌*◌, ◌≤◌, ◌<◌, ℤ, length}
use Rattle.linear.specs.Combinations.{Enumerates}
use Rattle.linear.specs.Systems.{value}
use Rattle.linear.specs.Tuples.{AtOrBelow, Same, total}
use Rattle.definitions.specs.System.{most_component}
use Rattle.engine_spec.specs.Caps.{Inside}
use Rattle.engine_spec.specs.Equations.{LoopInside, Wanted}
use Rattle.engine_spec.specs.Signs.{Reduced, Within, plus}
use Rattle.engine_spec.specs.Search.{Before}
use Rattle.engine_spec.specs.Tests.{Pair}
use Rattle.engine_spec.specs.Stage.{Stage, grown, row}

-- by rising degree
abbrev pub Sorted : (q n : ℕ) (row : ℕ → ℕ → ℕ) → Type 0
Sorted q n row = (i k : ℕ) → i ≤ k → k < n → total (row i) q ≤ total (row k) q

-- What a stage is given: the minimal solutions of the equations so far inside the cap, each once, with components of at most 1,000,000.
pub record Given (cap p q : ℕ) (a : ℕ → ℕ → ℤ) (m : ℕ) (basis : ℕ → ℕ → ℕ) : Type 0 where
  pub loops : Enumerates q (LoopInside cap p q a) m basis
  pub small : (i j : ℕ) → i < m → j < q → basis i j ≤ most_component

-- a pair of the degree d before (upper, lower), or of a lower degree
abbrev pub Gone : (q : ℕ) (row : ℕ → ℕ → ℕ) (d upper lower h k : ℕ) → Type 0
Gone q row d upper lower h k =
    (total (row h) q + total (row k) q < d) ⊎ ((total (row h) q + total (row k) q ≡ d) × Before upper lower h k)

-- a row of the basis of the degree d before row `taken`, or of a lower degree
abbrev pub Taken : (q : ℕ) (basis : ℕ → ℕ → ℕ) (d taken i : ℕ) → Type 0
Taken q basis d taken i = (total (basis i) q < d) ⊎ ((total (basis i) q ≡ d) × (i < taken))

pub record Sound (cap p q : ℕ) (a : ℕ → ℕ → ℤ) (c : ℕ → ℤ) (m : ℕ) (basis : ℕ → ℕ → ℕ) (s : Stage) : Type 0 where
  pub capped : s.cap ≡ cap
  pub fits : s.rows * q ≤ length s.table
  pub small : (i j : ℕ) → i < s.rows → j < q → row q s i j ≤ most_component
  -- nonzero solutions of the equations so far, inside the cap
  pub wanted : (i : ℕ) → i < s.rows → Wanted cap p q a (row q s i)
  pub sorted : Sorted q s.rows (row q s)
  pub low : (i : ℕ) → i < s.rows → total (row q s i) q ≤ s.degree
  -- the rows of the basis gone through are in the table
  pub within : (i : ℕ) → i < m → Taken q basis s.degree s.taken i → (k : ℕ) × (k < s.rows) × Same q (row q s k) (basis i)
  -- the sums of the pairs gone through are reduced, where they are inside the cap
  pub pairs : (h k : ℕ) → h < s.rows → k < s.rows → Pair q c (row q s) h k → Gone q (row q s) s.degree s.upper s.lower h k
      → Inside cap q (plus (row q s h) (row q s k)) → Reduced q c s.rows (row q s) (plus (row q s h) (row q s k))
  -- no row is reduced by an earlier one
  pub apart : (i k : ℕ) → i < k → k < s.rows → Within (value c q (row q s i)) (value c q (row q s k)) → ¬ (AtOrBelow q (row q s i) (row q s k))
  -- as long as a row of the basis of the present degree is left, the rows of that degree in the table are of the basis
  pub first : (i : ℕ) → s.taken ≤ i → i < m → total (basis i) q ≡ s.degree → (k : ℕ) → k < s.rows → total (row q s k) q ≡ s.degree
      → (l : ℕ) × (l < s.taken) × Same q (row q s k) (basis l)

-- ---- a row appended

module _ (cap p q : ℕ) (a : ℕ → ℕ → ℤ) (c : ℕ → ℤ) (m : ℕ) (basis : ℕ → ℕ → ℕ) (s : Stage) (sound : Sound cap p q a c m basis s) (x : ℕ → ℕ)
    (taken upper lower : ℕ) (room : s.rows * q + q ≤ length s.table) (exact : total x q ≡ s.degree) where
  abbrev pub t : Stage
  t = grown q x taken upper lower s
