-- Degrees within the limits, and one turn of the loop that adds one up. Assumes nothing.
use Rattle.std.specs.Prelude.{◌≡◌, ℕ, ◌+◌, ◌*◌, ◌≤◌, ◌<◌}
use Rattle.std.proofs.Common.{arith}
use Rattle.linear.proofs.TupleLaws.{total_more, total_most}
use Rattle.linear.specs.Tuples.{total}
use Rattle.definitions.specs.System.{most_component}
use Rattle.engine_spec.specs.Beside.{most_columns}

-- "32 · 1,000,000"
abbrev pub degree_limit : ℕ
degree_limit = most_columns * most_component

pub degree_small : (q : ℕ) (x : ℕ → ℕ) → q ≤ most_columns → ((j : ℕ) → j < q → x j ≤ most_component) → total x q ≤ degree_limit
degree_small q x few h = omega (arith, total_most x q most_component h, few)

-- the sum of the first places with the next one is within the limit
pub total_room : (q : ℕ) (x : ℕ → ℕ) (j : ℕ) {sum : ℕ} → q ≤ most_columns → ((j : ℕ) → j < q → x j ≤ most_component) → j < q → sum ≡ total x j
    → sum + x j ≤ degree_limit
total_room q x j few h l e = omega (arith, total_more x j e, degree_small (j + 1) x (omega arith) (λ i il. h i (omega arith)))
