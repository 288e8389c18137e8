-- Words and limits as a loop tests them. Assumes nothing.
use Rattle.std.specs.Prelude.{◌≡◌, ℕ, zero, suc, ◌+◌, Bool, ◌&&◌, leb, ◌==◌, nat_eq, nat_le, refl}
use Rattle.std.proofs.Common.{add-one, arith, ne_eqb}
use Rattle.std.proofs.lemmas.Bool.{lt-leb}
use Rattle.linear.specs.Tests.{all_to}
use Rattle.linear.proofs.TestLaws.{all_same}

-- one more place is tested
pub all_more : (n : ℕ) (f : ℕ → Bool) → all_to n f && f n ≡ all_to (n + 1) f
unfolding all_to
all_more n f = rw add-one

-- at most 0 is 0
at_most_zero : (n : ℕ) → nat_le n 0 ≡ (n == 0)
at_most_zero zero = refl
at_most_zero (suc n) = rw (lt-leb (suc n) 0 (omega arith), ne_eqb (suc n) 0 (λ e. omega arith))

pub all_zero : (n : ℕ) (f : ℕ → ℕ) → all_to n (λ j. leb (f j) 0) ≡ all_to n (λ j. nat_eq (f j) 0)
all_zero n f = all_same n (λ j. leb (f j) 0) (λ j. nat_eq (f j) 0) (λ j l. at_most_zero (f j))
