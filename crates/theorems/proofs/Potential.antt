-- Theorems about what specs/Potential.antt defines. Assumes nothing.
use Rattle.std.specs.Prelude.{◌≡◌, refl, ℕ, zero, suc, ◌+◌, ◌-◌, ◌≤◌, ◌<◌}
use Rattle.std.proofs.Common.{add-zero, zero-add, add-suc, add-one, arith}
use Rattle.linear.specs.Choose.{choose, weight}
use Rattle.linear.proofs.Choose.{weight_pos, weight_step}
use Rattle.theorems.specs.Potential.{potential}

-- only the rows of the stack count
pub potential_same : (D q : ℕ) (sum sum' : ℕ → ℕ) (h : ℕ) → ((k : ℕ) → 1 ≤ k → k ≤ h → sum' k ≡ sum k) → potential D q sum' h ≡ potential D q sum h
unfolding potential
potential_same D q sum sum' zero same = refl
potential_same D q sum sum' (suc h) same =
    rw (same (suc h) (omega arith) (omega arith), potential_same D q sum sum' h (λ k l u. same k l (omega arith)))

-- each row weighs at least 1
pub height≤potential : (D q : ℕ) (sum : ℕ → ℕ) (h : ℕ) → h ≤ potential D q sum h
unfolding potential
height≤potential D q sum zero = omega arith
height≤potential D q sum (suc h) =
    omega (arith, height≤potential D q sum h, weight_pos (D - sum (suc h)) (q - suc h + 1))

-- c rows go on a stack of height h, each with r steps left. They weigh what a place with one step more, and all their directions, loses by
-- going down to the directions that are left: so sums over the rows telescope.
pub potential_grown : (D q : ℕ) (sum : ℕ → ℕ) (r h c : ℕ) → h + c ≤ q → ((k : ℕ) → h < k → k ≤ h + c → D - sum k ≡ r)
    → potential D q sum (h + c) + weight (suc r) (q - (h + c)) ≡ potential D q sum h + weight (suc r) (q - h)
unfolding potential
potential_grown D q sum r h zero fits even = rw add-zero
potential_grown D q sum r h (suc c) fits even =
    let added : D - sum (suc (h + c)) ≡ r = even (suc (h + c)) (omega arith) (omega arith) in
    let free : q - (h + c) ≡ suc (q - suc (h + c)) = omega arith in
    let before = potential_grown D q sum r h c (omega arith) (λ k l u. even k l (omega arith)) in
    rw (add-suc h c, added, add-one) (omega (arith, weight_step r (q - suc (h + c)), rw free at before))

-- (a) the plain start: q rows of sum 1
pub potential_start : (D q : ℕ) (sum : ℕ → ℕ) → 1 ≤ D → ((k : ℕ) → 1 ≤ k → k ≤ q → sum k ≡ 1) → potential D q sum q ≡ choose (D + q) q - 1
unfolding potential weight choose
potential_start zero q sum some ones = omega arith
potential_start (suc r) q sum some ones =
    let grown = potential_grown (suc r) q sum r 0 q (omega arith) (λ k l u. omega (arith, ones k (omega arith) (omega arith))) in
    let none : q - q ≡ 0 = omega arith in
    let all : q - 0 ≡ q = omega arith in
    omega (arith, rw (zero-add q, none, all) at grown)

-- One step of the walk on a stack of height `rest + 1`: the top row comes off, and `children` rows, each with a sum larger by 1, go on from its level.
pub record Step (D q : ℕ) (sum sum' : ℕ → ℕ) (rest children : ℕ) : Type 0 where
  pub fits : rest + children ≤ q
  pub kept : (k : ℕ) → 1 ≤ k → k ≤ rest → sum' k ≡ sum k
  pub larger : (k : ℕ) → rest < k → k ≤ rest + children → sum' k ≡ sum (rest + 1) + 1
  pub room : 1 ≤ children → sum (rest + 1) + 1 ≤ D

-- (b) a step lowers the potential
pub potential_step : (D q : ℕ) (sum sum' : ℕ → ℕ) (rest children : ℕ) → Step D q sum sum' rest children
    → potential D q sum' (rest + children) < potential D q sum (rest + 1)
unfolding potential
potential_step D q sum sum' rest zero s =
    rw (add-zero, add-one) (omega (arith, potential_same D q sum sum' rest s.kept, weight_pos (D - sum (suc rest)) (q - suc rest + 1)))
potential_step D q sum sum' rest (suc c) s =
    let r : ℕ = D - (sum (rest + 1) + 1) in
    let room : sum (rest + 1) + 1 ≤ D = s.room (omega arith) in
    let slack : D - sum (rest + 1) ≡ suc r = omega arith in
    let free : q - suc rest + 1 ≡ q - rest = omega (arith, s.fits) in
    let grown = potential_grown D q sum' r rest (suc c) s.fits (λ k l u. omega (arith, s.larger k l u)) in
    rw (add-one rest, free, ← add-one rest, slack)
    (omega (arith, potential_same D q sum sum' rest s.kept, grown, weight_pos (suc r) (q - (rest + suc c))))
