-- Theorems about what specs/Terms.antt defines. Assumes nothing.
use Rattle.std.specs.Prelude.{◌≡◌, ◌+◌, ◌*◌, ◌≤◌, ◌<◌, ℤ, pos, ◌+ℤ◌, ◌*ℤ◌, ◌≤ℤ◌, ◌<ℤ◌}
use Rattle.std.proofs.Common.{ap, arith}
use Rattle.linear.specs.Differences.{up, down, products, integers}
use Rattle.linear.proofs.Differences.{sum_is}
use Rattle.linear.specs.Terms.{#◌, Term, minus, plus, value, ⊖◌, ◌⊕◌, ◌⊗◌}

value_is : (t : Term) → up (value t) + minus t ≡ plus t + down (value t)
value_is (# z) = omega arith
value_is (s ⊕ t) = omega (arith, value_is s, value_is t, sum_is (value s) (value t))
value_is (s ⊗ t) =
    let e = value_is s in
    let f = value_is t in
    simp
    products
    (omega
    (arith, ap (λ n. n * up (value t)) e, ap (λ n. n * down (value t)) e, ap (λ n. plus s * n) f, ap (λ n. minus s * n) f))
value_is (⊖ s) = simp products (omega (arith, value_is s))

-- what `omega` shows of the terms holds of their values

pub ring : (s t : Term) → plus s + minus t ≡ plus t + minus s → value s ≡ value t
ring s t h = omega (integers, value_is s, value_is t)

pub ring_le : (s t : Term) → plus s + minus t ≤ plus t + minus s → value s ≤ℤ value t
ring_le s t h = omega (integers, value_is s, value_is t)

pub ring_lt : (s t : Term) → plus s + minus t < plus t + minus s → value s <ℤ value t
ring_lt s t h = omega (integers, value_is s, value_is t)

-- and a fact of the values, for `omega`'s list

pub read_eq : (s t : Term) → value s ≡ value t → plus s + minus t ≡ plus t + minus s
read_eq s t h = omega (integers, value_is s, value_is t)

pub read_le : (s t : Term) → value s ≤ℤ value t → plus s + minus t ≤ plus t + minus s
read_le s t h = omega (integers, value_is s, value_is t)

pub read_lt : (s t : Term) → value s <ℤ value t → plus s + minus t < plus t + minus s
read_lt s t h = omega (integers, value_is s, value_is t)

square : (a b : ℤ) → (a +ℤ b) *ℤ (a +ℤ b) ≡ a *ℤ a +ℤ pos 2 *ℤ (a *ℤ b) +ℤ b *ℤ b
square a b = ring ((# a ⊕ # b) ⊗ (# a ⊕ # b)) (# a ⊗ # a ⊕ # pos 2 ⊗ (# a ⊗ # b) ⊕ # b ⊗ # b) (omega arith)
