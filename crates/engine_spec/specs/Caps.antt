-- The cap of a run: the greatest number that the first component of a row may have; 0 says that there is none. What is at or below a tuple inside the cap is
-- inside it too, so that sums that pass it are below no wanted tuple and need not become rows. Assumes nothing.
use Rattle.std.proofs.Common.{arith}
use Rattle.std.specs.Prelude.{Bool, false, ℕ, zero, suc, ◌≤◌, ◌<◌, eqb, ltb}
use Rattle.linear.specs.Tuples.{AtOrBelow, Nonzero}

-- the first component passes the cap
abbrev pub is_over : (cap : ℕ) → (ℕ → ℕ) → Bool
is_over zero z = false
is_over (suc c) z = ltb (suc c) (z 0)

-- the unknown f is the one that a cap is on
abbrev pub is_capped : (cap f : ℕ) → Bool
is_capped zero f = false
is_capped (suc c) f = eqb f 0

-- the same as statements: past the cap, and inside it
abbrev pub Over : (cap : ℕ) → (ℕ → ℕ) → Type 0
Over cap z = (0 < cap) × (cap < z 0)

abbrev pub Inside : (cap q : ℕ) → (ℕ → ℕ) → Type 0
Inside cap q z = 0 < cap → 0 < q → z 0 ≤ cap

pub record NonzeroInside (cap q : ℕ) (z : ℕ → ℕ) : Type 0 where
  pub some : Nonzero q z
  pub inside : Inside cap q z

-- nonzero and inside the cap; without a cap just nonzero
abbrev pub Admitted : (cap q : ℕ) → (ℕ → ℕ) → Type 0
Admitted zero q = Nonzero q
Admitted (suc c) q = NonzeroInside (suc c) q

-- ---- tuples inside

pub inside_below : (cap q : ℕ) (y x : ℕ → ℕ) → AtOrBelow q y x → Inside cap q x → Inside cap q y
inside_below cap q y x b inside capped some = omega (arith, b 0 some, inside capped some)
