-- Directed graphs whose arcs are numbered. A row of numbers names the arcs at which it is not 0: the order in which these follow one another, and the
-- test that they are one circuit. All compute. In the trade a node is a tray, and an arc an activity that takes a document at its tail and puts it at
-- its head. Assumes nothing.
use Rattle.std.specs.Prelude.{ℕ, suc, ◌-◌, Bool, true, false, not, ◌&&◌, ◌≡◌, leb, ltb, eqb}
use Rattle.linear.specs.Tests.{all_to, count_to}
use Rattle.linear.specs.Tuples.{Nonzero, total}
use Rattle.single_spec.specs.First.{find_to, iterate}

pub record Graph : Type 0 where
  pub arcs : ℕ
  pub head : ℕ → ℕ
  pub tail : ℕ → ℕ

-- the row x names arc j
abbrev pub named : (ℕ → ℕ) → ℕ → Bool
named x j = ltb 0 (x j)

-- how many arcs it names
unfoldable pub size : ℕ → (ℕ → ℕ) → ℕ
size q x = count_to q (named x)

-- the lowest of them
unfoldable pub lowest : ℕ → (ℕ → ℕ) → ℕ
lowest q x = find_to q (named x)

-- the lowest of them with its tail at node i; the number of arcs where there is none
unfoldable pub leaving : Graph → (ℕ → ℕ) → ℕ → ℕ
leaving n x i = find_to n.arcs (λ k. named x k && eqb (n.tail k) i)

-- the arc after j: the one of the row with its tail at the head of j
abbrev pub next : Graph → (ℕ → ℕ) → ℕ → ℕ
next n x j = leaving n x (n.head j)

-- "The order begins with the lowest number": arc k of the order, from 0
abbrev pub order : Graph → (ℕ → ℕ) → ℕ → ℕ
order n x k = iterate (next n x) (lowest n.arcs x) k

-- after arc k of the order there is a next one, and it is not the lowest again
abbrev pub goes_on : Graph → (ℕ → ℕ) → ℕ → Bool
goes_on n x k = ltb (order n x (suc k)) n.arcs && not (eqb (order n x (suc k)) (order n x 0))

-- The row is a circuit: it holds 0 and 1 only, and some 1; from the lowest arc on there is a next one, not the lowest, until as many are met as the
-- row names, and then comes the lowest.
unfoldable pub is_circuit : Graph → (ℕ → ℕ) → Bool
is_circuit n x =
    all_to n.arcs (λ j. leb (x j) 1)
    && (ltb 0 (size n.arcs x) && (all_to (size n.arcs x - 1) (goes_on n x) && eqb (order n x (size n.arcs x)) (order n x 0)))

-- ---- what is balanced

abbrev pub gate : Bool → ℕ → ℕ
gate true k = k
gate false k = 0

-- how much of the row x flows at node i, where `node` is the heads of the arcs or their tails: the sum of x j over the arcs j whose node is i
unfoldable pub flow : ℕ → (ℕ → ℕ) → (ℕ → ℕ) → ℕ → ℕ
flow q node x i = total (λ j. gate (eqb (node j) i) (x j)) q

-- The row is not all zero, and as much of it flows into each node as out.
pub record Circulation (n : Graph) (x : ℕ → ℕ) : Type 0 where
  pub balanced : (i : ℕ) → flow n.arcs n.head x i ≡ flow n.arcs n.tail x i
  pub nonzero : Nonzero n.arcs x
