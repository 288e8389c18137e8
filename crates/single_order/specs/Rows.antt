-- A row of a list table as a tuple, the number of its ones, and what `order_of` leaves. Assumes nothing.
use Rattle.std.specs.Prelude.{ℕ, zero, suc, ◌+◌, ◌*◌, ◌≤◌, ◌<◌, ◌≡◌, Bool, true, false, not, ◌&&◌, ◌||◌, Option, Some, None, List, eqb, ltb, length, get_or, ℤ}
use Rattle.std.proofs.Math.Path.{refl, sym}
use Rattle.std.proofs.Common.{add-one}
use Rattle.std.proofs.Math.Nat.{le_antisymm}
use native.Mathlib.Omega.{arith}
use Rattle.std.specs.Option.{option_eq}
use Rattle.std.proofs.Math.Dec.{leb}
use Rattle.std.proofs.lemmas.Bool.Decides.{nat_tests}
use borrow.Author.Tests.{eq-eqb, le-leb, le-ltb, lt-leb, lt-ltb, ltb-false, ltb-true, ne_eqb}
use Rattle.linear.proofs.LoopLaws.{all_fails, all_next}
use Rattle.linear.specs.Tests.{all_to, any_to, count_to}
use Rattle.definitions.specs.Input.{input_of, system_of}
use Rattle.definitions.specs.System.{System, coef}
use Rattle.single_spec.proofs.FirstLaws.{first_of}
use Rattle.single_spec.specs.Graph.{named, size}
use Rattle.single_spec.specs.Profile.{head_of, is_circuit_of, is_unit, node_of, circuit_order, tail_of}

-- the system that a walk goes through on a map, as it is handed over
abbrev pub map_of : ℕ → ℕ → List ℤ → System
map_of p q coefs = system_of (input_of p q coefs)

-- the row that stands in the table from place `base` (row i of rows of q numbers: i * q)
abbrev pub row_of : List ℕ → ℕ → ℕ → ℕ
row_of list base j = get_or list (base + j) 0

abbrev pub if_so : Bool → ℕ → Option ℕ
if_so true k = Some k
if_so false k = None

-- a place that a search among n found, which is n where it found none
abbrev pub place_below : ℕ → ℕ → Option ℕ
place_below n k = if_so (ltb k n) k

-- how many components are 1, where none is above 1
unfoldable pub ones_of : ℕ → (ℕ → ℕ) → Option ℕ
ones_of q x = if_so (all_to q (λ j. leb (x j) 1)) (size q x)

-- the tables are long enough
pub record Fits (p q coefs base list : ℕ) : Type 0 where
  pub whole : p * q ≤ coefs
  pub row : base + q ≤ list

-- the first so many unknowns of the order are written
pub record Ordered (m : System) (x : ℕ → ℕ) (order : List ℕ) (size : ℕ) : Type 0 where
  pub some : 0 < size
  pub few : size ≤ m.q
  pub written : (k : ℕ) → k < size → get_or order k 0 ≡ circuit_order m x k
  pub low : (k : ℕ) → k < size → get_or order k 0 < m.q

-- Of a row that is a minimal solution its size, and its unknowns in their order.
pub record OrderOf (m : System) (x : ℕ → ℕ) (order : List ℕ) (r : Option ℕ) : Type 0 where
  pub result : r ≡ if_so (is_circuit_of m x) (size m.q x)
  pub ordered : (k : ℕ) → r ≡ Some k → Ordered m x order k
  pub array : length order ≡ 16

-- ---- the tests of one place, from what the code compared

pub named_yes : (n : ℕ) → (n ≡ 0 → ⊥) → ltb 0 n ≡ true
named_yes n h = lt-ltb 0 n (omega arith)

pub named_no : (n : ℕ) → n ≡ 0 → ltb 0 n ≡ false
named_no n e = le-ltb 0 n (omega arith)

-- ---- the count of ones

-- the components before j are 0 or 1, and n of them are 1
pub record Ones (x : ℕ → ℕ) (j n : ℕ) : Type 0 where
  pub small : all_to j (λ i. leb (x i) 1) ≡ true
  pub count : n ≡ size j x
  pub few : n ≤ j

pub ones_none : (x : ℕ → ℕ) → Ones x 0 0
ones_none x = record { small = unfold all_to in refl; count = unfold size count_to in refl; few = omega arith }

module _ {x : ℕ → ℕ} {j n : ℕ} (h : Ones x j n) where
  pub ones_zero : x j ≡ 0 → Ones x (j + 1) n
  unfolding size count_to
  ones_zero e =
      record {
        small = all_next j _ h.small (le-leb (x j) 1 (omega arith));
        count = rw (add-one j, named_no (x j) e) (omega (arith, h.count));
        few = omega (arith, h.few);
      }

  pub ones_one : x j ≡ 1 → Ones x (j + 1) (n + 1)
  unfolding size count_to
  ones_one e =
      record {
        small = all_next j _ h.small (le-leb (x j) 1 (omega arith));
        count = rw (add-one j, named_yes (x j) (omega arith)) (omega (arith, h.count));
        few = omega (arith, h.few);
      }

  pub ones_large : (q : ℕ) → j < q → (x j ≡ 0 → ⊥) → (x j ≡ 1 → ⊥) → None ≡ ones_of q x
  unfolding ones_of
  ones_large q l z o = rw (all_fails q (λ i. leb (x i) 1) j l (lt-leb (x j) 1 (omega arith))) refl

  pub ones_all : (q : ℕ) → j ≤ q → q ≤ j → Some n ≡ ones_of q x
  unfolding ones_of
  ones_all q a b = let e = le_antisymm a b in rw (← e, h.small, h.count) refl

-- ---- what is there, and what is not

pub so_some : (b : Bool) (n : ℕ) {k : ℕ} → Some k ≡ if_so b n → (b ≡ true) × (k ≡ n)
so_some true n e = (refl, cc)
so_some false n e = absurd (cc)

pub so_none : (b : Bool) (n : ℕ) → None ≡ if_so b n → b ≡ false
so_none true n e = absurd (cc)
so_none false n e = refl

-- ---- the place that a search found

pub below_some : {n k v : ℕ} → Some v ≡ place_below n k → (v ≡ k) × (k < n)
below_some {n} {k} e = let (b, g) = so_some (ltb k n) k e in (g, ltb-true k n b)

pub below_none : {n k : ℕ} → None ≡ place_below n k → n ≤ k
below_none {n} {k} e = ltb-false k n (so_none (ltb k n) k e)

-- two such places compared
same_place : (n a b : ℕ) → a ≤ n → b ≤ n → option_eq eqb (place_below n a) (place_below n b) ≡ eqb a b
same_place n a b l u = go (ltb a n) (ltb b n) refl refl
  where
    go : (x y : Bool) → ltb a n ≡ x → ltb b n ≡ y → option_eq eqb (if_so x a) (if_so y b) ≡ eqb a b
    go true true e f = refl
    go true false e f = sym (ne_eqb a b (λ g. absurd (omega (arith, ltb-true a n e, ltb-false b n f))))
    go false true e f = sym (ne_eqb a b (λ g. absurd (omega (arith, ltb-false a n e, ltb-true b n f))))
    go false false e f = sym (eq-eqb a b (omega (arith, ltb-false a n e, ltb-false b n f)))

-- whether an unknown takes its document where another puts it
pub same_node : (m : System) (k j : ℕ) → option_eq eqb (place_below m.p (tail_of m k)) (place_below m.p (head_of m j)) ≡ eqb (tail_of m k) (head_of m j)
unfolding node_of
same_node m k j =
    same_place m.p (tail_of m k) (head_of m j) (omega (arith, (first_of m.p (λ i. is_unit true (coef m i k))).most))
    (omega (arith, (first_of m.p (λ i. is_unit false (coef m i j))).most))

-- ---- the count of ones, from the test for a component above 1

small_not_large : (n : ℕ) → leb n 1 ≡ not (ltb 1 n)
small_not_large n = grind (arith, nat_tests)

all_not_any : (q : ℕ) (x : ℕ → ℕ) → all_to q (λ j. leb (x j) 1) ≡ not (any_to q (λ j. ltb 1 (x j)))
unfolding all_to any_to
all_not_any zero x = refl
all_not_any (suc q) x = rw (all_not_any q x, small_not_large (x q)) (de_morgan (any_to q (λ j. ltb 1 (x j))) (ltb 1 (x q)))
  where
    de_morgan : (a b : Bool) → (not a && not b) ≡ not (a || b)
    de_morgan true b = refl
    de_morgan false b = refl

pub large_none : (q : ℕ) (x : ℕ → ℕ) → any_to q (λ j. ltb 1 (x j)) ≡ true → None ≡ ones_of q x
unfolding ones_of
large_none q x e = rw (all_not_any q x, e)

pub small_some : {n : ℕ} (q : ℕ) (x : ℕ → ℕ) → any_to q (λ j. ltb 1 (x j)) ≡ false → n ≡ count_to q (named x) → Some n ≡ ones_of q x
unfolding ones_of size
small_some q x e c = rw (all_not_any q x, e, c)
