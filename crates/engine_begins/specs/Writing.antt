-- Numbers written into the working system: what the contracts cite, and one turn of their loops. Assumes nothing.
use Rattle.std.specs.Prelude.{◌≡◌, refl, ◌⊎◌, true, List, ℕ, ◌+◌, ◌≤◌, ◌<◌, ℤ, nat_abs, ◌+ℤ◌, ◌*ℤ◌, set}
use Rattle.std.proofs.Common.{inl, inr, add-one, arith, to_z-of_z, SFits}
use Rattle.std.proofs.Math.Dec.{T, leb→le}
use Rattle.std.specs.Int.{w32}
use Rattle.linear.proofs.Integers.{sfits_nat_abs}
use Rattle.linear.proofs.TestLaws.{all_at}
use Rattle.engine_spec.specs.Beside.{SmallEquation, coefficient_limit, equation_at}
use Rattle.engine_spec.specs.Engine.{fill_to}
use Rattle.engine_spec.proofs.Operations.{fill_outside}
use Rattle.engine_beside.specs.Small.{coefficient_fits}
use Rattle.engine_checks.specs.Operating.{combined_read, combines_small, read32, read64}

pub fill_none : (table : List ℤ) (base : ℕ) (f : ℕ → ℤ) → table ≡ fill_to 0 table base f
unfolding fill_to
fill_none table base f = refl

-- one number more
pub fill_more : (i : ℕ) (table₀ : List ℤ) (base : ℕ) (f : ℕ → ℤ) {table : List ℤ} {v : ℤ} → table ≡ fill_to i table₀ base f → v ≡ f i
    → set table (base + i) v ≡ fill_to (i + 1) table₀ base f
unfolding fill_to
fill_more i table₀ base f e g = rw (add-one i, e, g)

-- u times the number of one equation and t times that of another
abbrev pub combined_at : (x y : ℕ) (u t : ℤ) → List ℤ → ℕ → ℤ
combined_at x y u t equations j = (u *ℤ equation_at equations x j) +ℤ (t *ℤ equation_at equations y j)

-- two equations from places x and y, the same or apart, that combine within the limit
pub record Combines (q x y : ℕ) (u t : ℤ) (equations : List ℤ) : Type 0 where
  pub first : SmallEquation q equations x
  pub second : SmallEquation q equations y
  pub small : combines_small q x y u t equations ≡ true
  pub apart : (x ≡ y) ⊎ ((x + q ≤ y) ⊎ (y + q ≤ x))

module _ {q x y : ℕ} {u t : ℤ} {equations : List ℤ} (c : Combines q x y u t equations) where
  pub combined_small : (j : ℕ) → j < q → nat_abs (combined_at x y u t equations j) ≤ coefficient_limit
  unfolding combines_small
  combined_small j l =
      let h : T (combines_small q x y u t equations) = rw c.small tt in
      leb→le (nat_abs (combined_at x y u t equations j)) coefficient_limit (all_at q _ h j l)

  module _ (j : ℕ) {table : List ℤ} (e : table ≡ fill_to j equations x (combined_at x y u t equations)) (l : j < q) where
    -- the numbers that are next are as they were
    pub first_ahead : equation_at table x j ≡ equation_at equations x j
    first_ahead = rw e (fill_outside j equations x (combined_at x y u t equations) (x + j) (inr (omega arith)))

    pub second_ahead : equation_at table y j ≡ equation_at equations y j
    second_ahead = rw e (fill_outside j equations x (combined_at x y u t equations) (y + j) (elsewhere c.apart))
      where
        elsewhere : (x ≡ y) ⊎ ((x + q ≤ y) ⊎ (y + q ≤ x)) → (y + j < x) ⊎ (x + j ≤ y + j)
        elsewhere (inl same) = inr (omega arith)
        elsewhere (inr (inl later)) = inr (omega arith)
        elsewhere (inr (inr earlier)) = inl (omega arith)

    module _ (fu : SFits w32 u) (ft : SFits w32 t) where
      pub next_small : (nat_abs (read32 (equation_at table x j)) ≤ coefficient_limit) × (nat_abs (read32 (equation_at table y j)) ≤ coefficient_limit)
      next_small = (
        rw (first_ahead, to_z-of_z (coefficient_fits c.first j l)) (c.first.small j l),
        rw (second_ahead, to_z-of_z (coefficient_fits c.second j l)) (c.second.small j l),
      )

      module _ {v : ℤ} (h : v ≡ (read32 u *ℤ read32 (equation_at table x j)) +ℤ (read32 t *ℤ read32 (equation_at table y j))) where
        next_read : read64 v ≡ combined_at x y u t equations j
        next_read = combined_read c.first c.second fu ft j l (rw (first_ahead, second_ahead) at h)

        pub next_fits : nat_abs (read64 v) ≤ coefficient_limit
        next_fits = rw next_read (combined_small j l)

        pub next_written : {z : ℤ} → z ≡ read64 v → read32 z ≡ combined_at x y u t equations j
        next_written g = rw (g, next_read) (to_z-of_z {w = w32} (sfits_nat_abs (omega (arith, combined_small j l))))
