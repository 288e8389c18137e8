-- Theorems about what specs/Choose.antt defines. Assumes nothing.
use Rattle.std.specs.Prelude.{◌≡◌, refl, ℕ, zero, suc, ◌+◌, ◌≤◌, ◌<◌}
use Rattle.std.proofs.Common.{arith}
use Rattle.linear.specs.Choose.{choose, weight}

-- it computes
choose_6_3 : choose 6 3 ≡ 20
unfolding choose
choose_6_3 = refl

pub choose_pos : (n k : ℕ) → k ≤ n → 0 < choose n k
unfolding choose
choose_pos n zero h = omega arith
choose_pos zero (suc k) h = omega arith
choose_pos (suc n) (suc k) h = omega (arith, choose_pos n k (omega arith))

-- A way spends a step in the last direction, or does without that direction.
pub weight_step : (r f : ℕ) → weight (suc r) (suc f) ≡ weight r (suc f) + weight (suc r) f
unfolding weight choose
weight_step r f =
    let out : suc r + suc f ≡ suc (r + suc f) = omega arith in
    let over : suc r + f ≡ r + suc f = omega arith in
    rw (out, over) (omega arith)

pub weight_pos : (r f : ℕ) → 0 < weight r f
unfolding weight
weight_pos r f = choose_pos (r + f) f (omega arith)
