-- A fresh unknown: one that no equation so far mentions and that has the coefficient −1 in the next one. Among the minimal solutions so far only its unit tuple
-- has it. The stage leaves that row out: it goes through the solutions in which the unknown is 0. At its end it keeps the rows of value 0 or more, and writes
-- the value of each into the unknown: these are the minimal solutions with the equation, and again no sweep is needed. Where there is a cap it is not on the
-- fresh unknown. Assumes nothing.
use Rattle.std.specs.Prelude.{◌≡◌, Bool, not, cond, T, eqb, ltb, ℤ}
use Prim.Native.Nat.{ℕ, ◌<◌}
use Rattle.std.proofs.Math.IntN.{pos, negsuc}
use Rattle.std.specs.Int.Signed.{lt_z}
use Rattle.linear.specs.Differences.{up}
use Rattle.linear.specs.Systems.{Solution, value}
use Rattle.linear.specs.Tests.{count_to}
use Rattle.linear.specs.Tuples.{Same, unit}
use Rattle.engine_spec.specs.Equations.{Extends, Holding, Picked}
use Rattle.engine_spec.specs.Signs.{Closed}
use Rattle.engine_spec.specs.Ends.{Ended, picked_from}
use Rattle.engine_spec.specs.Sound.{Given, Sound}
use Rattle.engine_spec.specs.Stage.{Stage, row}

-- t with x at the place f
unfoldable pub put_at : (f x : ℕ) → (ℕ → ℕ) → ℕ → ℕ
put_at f x t j = cond (eqb j f) x (t j)

-- ---- the equation

-- the solutions of a₀ are those of a in which the unknown f is 0
pub record Without (p q : ℕ) (a : ℕ → ℕ → ℤ) (f p₀ : ℕ) (a₀ : ℕ → ℕ → ℤ) : Type 0 where
  pub less : (t : ℕ → ℕ) → Solution p₀ q a₀ t → Solution p q a t
  pub none : (t : ℕ → ℕ) → Solution p₀ q a₀ t → t f ≡ 0
  pub more : (t : ℕ → ℕ) → Solution p q a t → t f ≡ 0 → Solution p₀ q a₀ t

-- such a system: the equations of a, and that the unknown f is 0
unfoldable pub without_at : (p : ℕ) (a : ℕ → ℕ → ℤ) (f : ℕ) → ℕ → ℕ → ℤ
without_at p a f i j = cond (ltb i p) (a i j) (pos (unit f j))

-- the value of a tuple, written into the unknown f
abbrev pub filled : (q : ℕ) (c : ℕ → ℤ) (f : ℕ) → (ℕ → ℕ) → ℕ → ℕ
filled q c f t = put_at f (up (value c q t)) t

module _ (cap p q : ℕ) (a a' : ℕ → ℕ → ℤ) (c : ℕ → ℤ) (extends : Extends p q a a' c) (f : ℕ) (fq : f < q) (uncapped : 0 < cap → 0 < f)
    (minus : c f ≡ negsuc 0) (free : (i : ℕ) → i < p → a i f ≡ pos 0) (p₀ : ℕ) (a₀ : ℕ → ℕ → ℤ) (without : Without p q a f p₀ a₀) (n : ℕ)
    (row : ℕ → ℕ → ℕ) (holding : Holding cap p₀ q a₀ n row) (closed : Closed cap q c n row) where
  abbrev pub v : (ℕ → ℕ) → ℤ
  v = value c q

-- ---- before the stage: the rows of the basis in which the unknown is 0

module _ (cap p q : ℕ) (a : ℕ → ℕ → ℤ) (f : ℕ) (fq : f < q) (p₀ : ℕ) (a₀ : ℕ → ℕ → ℤ) (without : Without p q a f p₀ a₀) (m : ℕ) (basis : ℕ → ℕ → ℕ)
    (given : Given cap p q a m basis) (m₀ : ℕ) (basis₀ : ℕ → ℕ → ℕ) (picked : Picked q m basis (λ i. eqb (basis i f) 0) m₀ basis₀) where
  abbrev pub from : (x : ℕ) → x < m₀ → (i : ℕ) × (i < m) × T (eqb (basis i f) 0) × (count_to i (λ i. eqb (basis i f) 0) ≡ x) × Same q (basis₀ x) (basis i)
  from = picked_from q m basis (λ i. eqb (basis i f) 0) m₀ basis₀ picked

-- ---- after it: the rows of value 0 or more, filled

-- row i has the value 0 or more
abbrev pub not_below : (q : ℕ) (c : ℕ → ℤ) (row : ℕ → ℕ → ℕ) → ℕ → Bool
not_below q c row i = not (lt_z (value c q (row i)) (pos 0))

module _ (cap p q : ℕ) (a a' : ℕ → ℕ → ℤ) (c : ℕ → ℤ) (extends : Extends p q a a' c) (f : ℕ) (fq : f < q) (uncapped : 0 < cap → 0 < f)
    (minus : c f ≡ negsuc 0) (free : (i : ℕ) → i < p → a i f ≡ pos 0) (p₀ : ℕ) (a₀ : ℕ → ℕ → ℤ) (without : Without p q a f p₀ a₀) (m : ℕ)
    (basis : ℕ → ℕ → ℕ) (s : Stage) (sound : Sound cap p₀ q a₀ c m basis s) (ended : Ended cap p₀ q a₀ c s) (n' : ℕ) (row' : ℕ → ℕ → ℕ)
    (picked : Picked q s.rows (λ i. filled q c f (row q s i)) (not_below q c (row q s)) n' row') where
  abbrev pub g : ℕ → Bool
  g = not_below q c (row q s)

  abbrev pub made : (x : ℕ) → x < n' → (i : ℕ) × (i < s.rows) × T (g i) × (count_to i g ≡ x) × Same q (row' x) (filled q c f (row q s i))
  made = picked_from q s.rows (λ i. filled q c f (row q s i)) g n' row' picked
