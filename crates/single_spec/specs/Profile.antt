-- Document 02, job 12: "maps where each activity moves one document from one tray to another". The profile as a proposition and as a test that
-- computes, the graph of such a map, and the test for a minimal solution there. Unknowns and equations count from 0. Assumes nothing.
use Rattle.std.specs.Prelude.{ℕ, ◌<◌, ◌≡◌, ◌≢◌, Bool, true, false, not, ◌&&◌, ◌||◌, leb, eqb, ℤ, pos, negsuc}
use Rattle.linear.specs.Tests.{all_to, count_to}
use Rattle.definitions.specs.Answers.{Check, refuse_first}
use Rattle.definitions.specs.System.{System, coef, column, is_zero}
use Rattle.single_spec.specs.First.{find_to}
use Rattle.single_spec.specs.Graph.{Graph, is_circuit, order}

abbrev pub is_one : ℤ → Bool
is_one (pos n) = eqb n 1
is_one (negsuc n) = false

abbrev pub is_minus_one : ℤ → Bool
is_minus_one (pos n) = false
is_minus_one (negsuc n) = eqb n 0

-- ---- "each column has one 1, one −1 and otherwise zeros, or is all zeros"

-- column c of p numbers has "one 1", at `head`, "one −1", at `tail`, "and otherwise zeros"
pub record ArcColumn (p : ℕ) (c : ℕ → ℤ) (head tail : ℕ) : Type 0 where
  pub head_node : head < p
  pub tail_node : tail < p
  pub one : c head ≡ pos 1
  pub minus_one : c tail ≡ negsuc 0
  pub otherwise : (i : ℕ) → i < p → i ≢ head → i ≢ tail → c i ≡ pos 0

-- "or is all zeros"
abbrev pub Idle : ℕ → (ℕ → ℤ) → Type 0
Idle p c = (i : ℕ) → i < p → c i ≡ pos 0

pub data InProfile (p : ℕ) (c : ℕ → ℤ) : Type 0 where
  arc : (head tail : ℕ) → ArcColumn p c head tail → InProfile p c
  idle : Idle p c → InProfile p c

-- "each column" of the map is so
abbrev pub SingleFile : System → Type 0
SingleFile m = (j : ℕ) → j < m.q → InProfile m.p (column m j)

-- The test, as one pass over the column: no number but 0, 1 and -1; as many 1 as -1; and of each at most one.
unfoldable pub in_profile : ℕ → (ℕ → ℤ) → Bool
in_profile p c =
    all_to p (λ i. is_zero (c i) || (is_one (c i) || is_minus_one (c i)))
    && (eqb (count_to p (λ i. is_one (c i))) (count_to p (λ i. is_minus_one (c i))) && leb (count_to p (λ i. is_one (c i))) 1)

-- "26, a column outside the profile, with the first such column"
unfoldable pub check26 : System → Check
check26 m = refuse_first 26 m.q (λ j. not (in_profile m.p (column m j)))

-- ---- the graph of a map: its nodes are the equations (trays), its arcs the unknowns (activities)

-- a 1, or with `minus` a -1
abbrev pub is_unit : Bool → ℤ → Bool
is_unit false z = is_one z
is_unit true z = is_minus_one z

-- the equation at which a column has its 1, or with `minus` its -1; p where it has none
unfoldable pub node_of : Bool → System → ℕ → ℕ
node_of minus m j = find_to m.p (λ i. is_unit minus (coef m i j))

-- where unknown j "puts its document (its 1)", and where it "takes one (its −1)"
abbrev pub head_of : System → ℕ → ℕ
head_of m j = node_of false m j

abbrev pub tail_of : System → ℕ → ℕ
tail_of m j = node_of true m j

-- A column of zeros runs from node p, which is no equation of the map, to node p.
abbrev pub graph : System → Graph
graph m = record { arcs = m.q; head = head_of m; tail = tail_of m }

-- ---- the minimal solutions (loops)

-- the row is a minimal solution of a map in the profile: the test (`test` of Promises in crate `single_spec`)
abbrev pub is_circuit_of : System → (ℕ → ℕ) → Bool
is_circuit_of m x = is_circuit (graph m) x

-- unknown k of the order of a minimal solution, from 0
abbrev pub circuit_order : System → (ℕ → ℕ) → ℕ → ℕ
circuit_order m x k = order (graph m) x k

-- "30, a row that is no minimal loop, with the first such row"
unfoldable pub check30 : System → ℕ → (ℕ → ℕ → ℕ) → Check
check30 m found row = refuse_first 30 found (λ i. not (is_circuit_of m (row i)))
