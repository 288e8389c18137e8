-- What an answer says of the outcome behind it. Assumes nothing.
use Rattle.std.specs.Prelude.{ℕ, ◌≤◌, List, ◌≡◌, ℤ, nat_abs}
use Rattle.std.proofs.Common.{arith}
use Rattle.definitions.specs.System.{coef_limit}
use Rattle.equation_spec.specs.Outcome as form
use Rattle.equation_spec.specs.Outcome.{Outcome, outcome}
use Rattle.equation_spec.proofs.Theorems.{accepted_is_read}
use Rattle.equation_read.specs.Answer.{answered, read, refused}

pub answered_refused : (o : Outcome) (row : List ℤ) {n : ℕ} {values : List ℕ} {left : List ℤ} → refused n values left ≡ answered o row
    → o ≡ form.refused n values
unfolding answered
answered_refused (form.accepted zs z) row h = absurd (let z : ◌≡◌ {A = ℕ} 0 1 = cc in omega arith)
answered_refused (form.refused k values) row h = cc

pub answered_read : (o : Outcome) (row : List ℤ) {right : ℤ} {left : List ℤ} → read right left ≡ answered o row → o ≡ form.accepted left right
unfolding answered
answered_read (form.accepted zs z) row h = cc
answered_read (form.refused k values) row h = absurd (let z : ◌≡◌ {A = ℕ} 0 1 = cc in omega arith)

-- a right side that was read is in range
pub side_small : (q n : ℕ) (t : List ℕ) (row : List ℤ) {right : ℤ} {left : List ℤ} → read right left ≡ answered (outcome q n t) row → nat_abs right ≤ coef_limit
side_small q n t row e = let (x, r, a, b) = accepted_is_read q n t (answered_read (outcome q n t) row e) in rw b r.within.right
