-- From the minimal solutions of a system to those of the system with one equation more: add rows until the list is closed under that equation, keep
-- the rows with value 0, and sweep. Assumes nothing.
use Rattle.std.specs.Prelude.{◌≡◌, Bool, ℕ, ◌<◌, T, ℤ, pos}
use Rattle.linear.specs.Systems.{Solution, SolutionIn, value}
use Rattle.linear.specs.Tests.{count_to}
use Rattle.linear.specs.Tuples.{Minimal, Same}
use Rattle.definitions.specs.System.{is_zero}
use Rattle.engine_spec.specs.Caps.{Admitted}

-- a nonzero solution inside the cap
abbrev pub Wanted : (cap p q : ℕ) (a : ℕ → ℕ → ℤ) → (ℕ → ℕ) → Type 0
Wanted cap p q a = SolutionIn p q a (Admitted cap q)

-- a minimal solution inside the cap; without a cap, `Loop`
abbrev pub LoopInside : (cap p q : ℕ) (a : ℕ → ℕ → ℤ) → (ℕ → ℕ) → Type 0
LoopInside cap p q a = Minimal q (Wanted cap p q a)

-- The first n rows are nonzero solutions inside the cap, and each minimal one is among them; there may be others, and repetitions.
pub record Holding (cap p q : ℕ) (a : ℕ → ℕ → ℤ) (n : ℕ) (row : ℕ → ℕ → ℕ) : Type 0 where
  pub wanted : (i : ℕ) → i < n → Wanted cap p q a (row i)
  pub all : (t : ℕ → ℕ) → LoopInside cap p q a t → (i : ℕ) × (i < n) × Same q (row i) t

-- n' rows are those of n rows that a test picks, in their order
pub record Picked (q n : ℕ) (row : ℕ → ℕ → ℕ) (f : ℕ → Bool) (n' : ℕ) (row' : ℕ → ℕ → ℕ) : Type 0 where
  pub count : n' ≡ count_to n f
  pub rows : (i : ℕ) → i < n → T (f i) → Same q (row' (count_to i f)) (row i)

-- row i has value 0
abbrev pub zero_row : (q : ℕ) (c : ℕ → ℤ) (row : ℕ → ℕ → ℕ) → ℕ → Bool
zero_row q c row i = is_zero (value c q (row i))

-- ---- one equation

-- the system a' asks what a asks and, besides, that c has the value 0
pub record Extends (p q : ℕ) (a a' : ℕ → ℕ → ℤ) (c : ℕ → ℤ) : Type 0 where
  pub less : (t : ℕ → ℕ) → Solution p q a' t → Solution p q a t
  pub meets : (t : ℕ → ℕ) → Solution p q a' t → value c q t ≡ pos 0
  pub more : (t : ℕ → ℕ) → Solution p q a t → value c q t ≡ pos 0 → Solution p q a' t
