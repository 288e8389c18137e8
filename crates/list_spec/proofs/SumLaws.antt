-- The sum of the words of a block: what its last word must be. Assumes nothing.
use Rattle.std.specs.Prelude.{ℕ, zero, suc, ◌+◌, ◌%◌, ◌<◌, ◌≡◌, refl}
use Rattle.std.proofs.Common.{add-one, arith}
use Rattle.list_spec.specs.Words.{word_limit, total, wrapping_sum, negation}

pub total_next : (n : ℕ) (f : ℕ → ℕ) → total (n + 1) f ≡ total n f + f n
unfolding total
total_next n f = rw add-one

pub total_same : (n : ℕ) (f g : ℕ → ℕ) → ((k : ℕ) → k < n → f k ≡ g k) → total n f ≡ total n g
unfolding total
total_same zero f g h = refl
total_same (suc n) f g h = rw (total_same n f g (λ k l. h k (omega arith)), h n (omega arith))

-- one more word, wrapping
pub sum_next : (n : ℕ) (f : ℕ → ℕ) → (wrapping_sum n f + f n) % word_limit ≡ wrapping_sum (n + 1) f
sum_next n f = rw (total_next n f) (omega arith)

-- a word that makes the sum zero is the negation of the sum of the others; and the other way round
pub last_word : (s w : ℕ) → w < word_limit → (s + w) % word_limit ≡ 0 → w ≡ negation (s % word_limit)
last_word s w l e = omega arith

pub sum_zero : (s : ℕ) → (s + negation (s % word_limit)) % word_limit ≡ 0
sum_zero s = omega arith

pub negation_small : (w : ℕ) → negation w < word_limit
negation_small w = omega arith

-- the negation as the machine subtracts: the number that b added to wraps back to a
pub negation_is : (s w : ℕ) → s < word_limit → w < word_limit → (w + s) % word_limit ≡ 0 → w ≡ negation s
negation_is s w l m e = omega arith
