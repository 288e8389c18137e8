-- Degrees in order: each is at least 1, and none is below the one before. The test computes. Assumes nothing.
use Rattle.std.specs.Prelude.{◌≡◌, refl, Bool, List, T, leb, get_or}
use Rattle.std.proofs.Math.Logic.{inl, inr}
use Prim.Native.Nat.{ℕ, zero, suc, ◌+◌, ◌≤◌, ◌<◌}
use Rattle.std.proofs.Common.{add-one, ◌-◌}
use native.Mathlib.Omega.{arith}
use Rattle.std.proofs.Math.Dec.{le→leb, leb→le}
use Rattle.linear.proofs.Cases.{split}
use Rattle.linear.proofs.TestLaws.{all_at, all_from}
use Rattle.linear.specs.Tests.{all_to}

abbrev pub degree_at : List ℕ → ℕ → ℕ
degree_at degrees i = get_or degrees i 0

-- what degree i may not be below: the degree before it, and 1 for the first
unfoldable pub before : (ℕ → ℕ) → ℕ → ℕ
before f zero = 1
before f (suc i) = f i

unfoldable pub is_rising : ℕ → (ℕ → ℕ) → Bool
is_rising n f = all_to n (λ i. leb (before f i) (f i))

-- what it says
pub record Rising (n : ℕ) (f : ℕ → ℕ) : Type 0 where
  pub order : (i k : ℕ) → i ≤ k → k < n → f i ≤ f k
  pub some : (i : ℕ) → i < n → 1 ≤ f i

pub before_next : (f : ℕ → ℕ) (i : ℕ) → before f (i + 1) ≡ f i
unfolding before
before_next f i = rw add-one

pub before_later : (f : ℕ → ℕ) (i : ℕ) → ¬ (i ≡ 0) → f (i - 1) ≡ before f i
unfolding before
before_later f zero ne = absurd (ne refl)
before_later f (suc i) ne = let e : suc i - 1 ≡ i = omega arith in rw e refl

module _ (n : ℕ) (f : ℕ → ℕ) where
  step : T (is_rising n f) → (i : ℕ) → i < n → before f i ≤ f i
  unfolding is_rising
  step h i l = leb→le (before f i) (f i) (all_at n _ h i l)

  order : T (is_rising n f) → (i k : ℕ) → i ≤ k → k < n → f i ≤ f k
  unfolding before
  order h i zero l kn = let e : i ≡ 0 = omega arith in rw e (omega arith)
  order h i (suc k) l kn =
      elim (split i (suc k)) [
        | inl m ↦ omega (arith, order h i k (omega arith) (omega arith), step h (suc k) kn)
        | inr m ↦ let e : i ≡ suc k = omega arith in rw e (omega arith)
      ]

  pub rising_from : T (is_rising n f) → Rising n f
  unfolding before
  rising_from h = record { order = order h; some = λ i l. omega (arith, step h 0 (omega arith), order h 0 i (omega arith) l) }

  each : Rising n f → (i : ℕ) → i < n → before f i ≤ f i
  unfolding before
  each r zero l = r.some 0 l
  each r (suc i) l = r.order i (suc i) (omega arith) l

  pub rising_to : Rising n f → T (is_rising n f)
  unfolding is_rising
  rising_to r = all_from n _ (λ i l. le→leb (before f i) (f i) (each r i l))
