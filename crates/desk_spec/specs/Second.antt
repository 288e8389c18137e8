-- Document 02, Job 10, over abstract nodes: from the first group's whole list, the second walk, which raises by those minimal solutions, misses no minimal
-- solution of the whole map; what it lists are nonzero solutions of the whole map; and swept at the end, its list is just the basis. Assumes nothing.
use Rattle.std.specs.Prelude.{◌≡◌, Bool, ℕ, ◌+◌, ◌<◌, ℤ}
use Rattle.std.proofs.Common.{arith}
use Rattle.linear.proofs.Combinations.{solution_same}
use Rattle.linear.specs.Systems.{SolutionIn}
use Rattle.linear.specs.Tuples.{Nonzero, Same}
use Rattle.theorems.specs.View.{View}
use Rattle.theorems.specs.Reaching.{Alike, Begins, Grows, Lists, Raising}
use Rattle.desk_spec.specs.Sweeping.{Sweeps}

-- ---- the second walk

-- the nonzero solutions of the first group: its minimal ones, and what raising by them makes of them
abbrev pub InFirst : ℕ → ℕ → (ℕ → ℕ → ℤ) → (ℕ → ℕ) → Type 0
InFirst p₁ q a₁ = SolutionIn p₁ q a₁ (Nonzero q)

pub first_alike : (p₁ q : ℕ) (a₁ : ℕ → ℕ → ℤ) (s t : ℕ → ℕ) → Same q s t → InFirst p₁ q a₁ s → InFirst p₁ q a₁ t
first_alike p₁ q a₁ s t e f =
    record { solution = solution_same p₁ q a₁ e f.solution; admitted = let (j, jq, more) = f.admitted in (j, jq, omega (arith, e j jq)) }

-- "let the second walk start from those loops and raise by them": n generators, which solve the first group, and the equations of the second
abbrev pub by_generators : (p₁ p₂ q : ℕ) (a₁ a₂ : ℕ → ℕ → ℤ) (n : ℕ) (by : ℕ → ℕ → ℕ) → Raising
by_generators p₁ p₂ q a₁ a₂ n by =
    record {
      p = p₂;
      q = q;
      a = a₂;
      n = n;
      by = by;
      Admits = InFirst p₁ q a₁;
      alike = first_alike p₁ q a₁;
    }

-- ---- the whole map

-- a has the p₁ equations of a₁ and then the p₂ equations of a₂, each of q unknowns
pub record Joined (p₁ p₂ q : ℕ) (a₁ a₂ a : ℕ → ℕ → ℤ) : Type 0 where
  pub first : (i j : ℕ) → i < p₁ → j < q → a i j ≡ a₁ i j
  pub second : (i j : ℕ) → i < p₂ → j < q → a (p₁ + i) j ≡ a₂ i j

-- ---- the walk as a whole

-- The views that the second walk comes through: after its start, a step that lists, a step that grows, a sweep, a longer list table with the
-- same rows.
pub data Walked (r : Raising) : View → Type 0 where
  begun : {v : View} → Begins r v → Walked r v
  enlisting : {v w : View} → Walked r v → Lists r v w 0 → Walked r w
  growing : {v w : View} {rest : ℕ} {makes : ℕ → Bool} → Walked r v → Grows r v w rest makes → Walked r w
  sweeping : {v w : View} → Walked r v → Sweeps r v w → Walked r w
  relisting : {v w : View} → Walked r v → Alike r.q r.n v w → Walked r w

-- ---- what it promises

module _ {p₁ p₂ q : ℕ} {a₁ a₂ a : ℕ → ℕ → ℤ} (w : Joined p₁ p₂ q a₁ a₂ a) (n : ℕ) (by : ℕ → ℕ → ℕ) where
  abbrev pub r : Raising
  r = by_generators p₁ p₂ q a₁ a₂ n by
