-- Theorems about what specs/Newest.antt defines. Assumes nothing.
use Rattle.std.specs.Prelude.{◌≡◌, refl, Bool, true, false, ℕ, zero, suc, ◌*◌, ◌≤◌, ◌<◌, T}
use Rattle.std.proofs.Math.Option.{Option, some, none}
use Rattle.std.proofs.Common.{arith}
use Rattle.linear.specs.Places.{last_to, place_if}
use Rattle.linear.specs.Tests.{any_to}
use Rattle.linear.proofs.TestLaws.{any_at, is_false, is_true}
use Rattle.linear.specs.Tuples.{AtOrBelow}
use Rattle.definitions.specs.Highest.{highest}
use Rattle.definitions.specs.System.{is_at_or_below}
use Rattle.laws.proofs.SystemLaws.{below_from, below_to}
use Rattle.theorems.specs.Newest.{Looked, hit, looks_down, looks_up, unless_found}

looked : (n : ℕ) (f : ℕ → Bool) → Looked n (looks_down n f) (last_to n f)
unfolding looks_down last_to place_if
looked zero f = refl
looked (suc n) f = more (f n) (last_to n f) (looked n f)
  where
    more : (b : Bool) (o : Option ℕ) → Looked n (looks_down n f) o → Looked (suc n) (suc (unless_found b (looks_down n f))) (place_if b (suc n) o)
    more true o h = omega arith
    more false none h = omega (arith, h)
    more false (some k) h = omega (arith, h)

pub rows_looked : (w n : ℕ) (row : ℕ → ℕ → ℕ) (x : ℕ → ℕ) → Looked n (looks_down n (hit w row x)) (highest w n row x)
unfolding highest
rows_looked w n row x = looked n (hit w row x)

-- ---- "only the last at or below the tuple"

all_looked : (n : ℕ) (f : ℕ → Bool) → ((i : ℕ) → i < n → ¬ (T (f i))) → looks_up n f ≡ n
unfolding looks_up
all_looked zero f h = refl
all_looked (suc n) f h =
    rw (is_false (any_to n f) (λ y. let (i, l, z) = any_at n f y in h i (omega (arith, l)) z)) (omega (arith, all_looked n f (λ i l. h i (omega arith))))

-- one row is looked at, where all were before: of 4,096 rows less than a tenth
pub newest_first : (w n : ℕ) (row : ℕ → ℕ → ℕ) (x : ℕ → ℕ) → AtOrBelow w (row n) x → ((i : ℕ) → i < n → ¬ (AtOrBelow w (row i) x))
    → (looks_down (suc n) (hit w row x) ≡ 1) × (looks_up (suc n) (hit w row x) ≡ suc n)
unfolding looks_down looks_up
newest_first w n row x last others =
    let none : (i : ℕ) → i < n → ¬ (T (hit w row x i)) = λ i l y. others i l (below_from w (row i) x y) in (
      rw (is_true (is_at_or_below w (row n) x) (below_to w (row n) x last)),
      rw (is_false (any_to n (hit w row x)) (λ y. let (i, l, z) = any_at n (hit w row x) y in none i l z)) (omega (arith, all_looked n (hit w row x) none)),
    )

pub a_tenth : (w : ℕ) (row : ℕ → ℕ → ℕ) (x : ℕ → ℕ) → AtOrBelow w (row 4095) x → ((i : ℕ) → i < 4095 → ¬ (AtOrBelow w (row i) x))
    → 10 * looks_down 4096 (hit w row x) ≤ looks_up 4096 (hit w row x)
a_tenth w row x last others = let (a, b) = newest_first w 4095 row x last others in omega (arith, a, b)
