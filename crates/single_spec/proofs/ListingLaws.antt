-- The listing as it is written: one more unknown, one more place of the order, one more row; and a line read off an array that holds the order.
-- Assumes nothing.
use Rattle.std.specs.Prelude.{ℕ, zero, suc, ◌+◌, ◌<◌, true, false, List, [], ◌∷◌, ◌++◌, ◌≡◌, refl, get_or}
use Rattle.std.proofs.Common.{append-nil, ap₂, add-one, arith}
use Rattle.definitions.specs.System.{System}
use Rattle.texts.specs.Decimals.{decimal, newline, space}
use Rattle.single_spec.specs.Listing.{lines_to, loop_line, order_to, order_word, rising_to}
use Rattle.single_spec.specs.Graph.{named, size}
use Rattle.single_spec.specs.Profile.{circuit_order}

module _ (x : ℕ → ℕ) (j : ℕ) where
  pub rising_named : named x j ≡ true → rising_to (j + 1) x ≡ rising_to j x ++ (decimal (j + 1) ++ (space ∷ []))
  unfolding rising_to
  rising_named e = rw (add-one j, e)

  pub rising_other : named x j ≡ false → rising_to (j + 1) x ≡ rising_to j x
  unfolding rising_to
  rising_other e = rw (add-one j, e) (append-nil (rising_to j x))

pub order_next : (o : ℕ → ℕ) (k : ℕ) → order_to (k + 1) o ≡ order_to k o ++ (space ∷ decimal (o k + 1))
unfolding order_to
order_next o k = rw (add-one k, add-one (o k))

pub order_same : (n : ℕ) (o o' : ℕ → ℕ) → ((k : ℕ) → k < n → o k ≡ o' k) → order_to n o ≡ order_to n o'
unfolding order_to
order_same zero o o' e = refl
order_same (suc n) o o' e = ap₂ (λ t i. t ++ (space ∷ decimal (suc i))) (order_same n o o' (λ k l. e k (omega arith))) (e n (omega arith))

-- the line of a minimal solution whose order stands in an array
pub line_from : (m : System) (x : ℕ → ℕ) (order : List ℕ) → ((k : ℕ) → k < size m.q x → get_or order k 0 ≡ circuit_order m x k)
    → loop_line m x ≡ rising_to m.q x ++ (order_word ++ (order_to (size m.q x) (λ k. get_or order k 0) ++ (newline ∷ [])))
unfolding loop_line
line_from m x order e = rw (order_same (size m.q x) (λ k. get_or order k 0) (circuit_order m x) e)

pub lines_next : (m : System) (row : ℕ → ℕ → ℕ) (i : ℕ) → lines_to (i + 1) m row ≡ lines_to i m row ++ loop_line m (row i)
unfolding lines_to
lines_next m row i = rw (add-one i)
