-- Theorems about what specs/Circuits.antt defines. Assumes nothing.
use Rattle.std.specs.Prelude.{◌≡◌, ◌≢◌, ◌&&◌, T, ltb}
use Rattle.std.proofs.Math.Path.{sym, ap}
use Rattle.std.proofs.Common.{◌∙◌, lt→ltb, T_not}
use Rattle.std.proofs.Math.Logic.{inl, inr}
use Prim.Native.Nat.{ℕ, zero, suc, ◌+◌, ◌-◌, ◌≤◌, ◌<◌}
use Rattle.std.proofs.Math.Decide.{ℕ_discrete}
use native.Mathlib.Omega.{arith}
use Rattle.std.proofs.Math.Dec.{eqb, eqb→eq, leb, leb→le, le→leb, ltb→lt, not_T}
use Rattle.linear.proofs.Cases.{split}
use Rattle.linear.proofs.TestLaws.{all_at, all_from, and_both, and_parts}
use Rattle.linear.specs.Tests.{all_to}
use Rattle.linear.proofs.TupleLaws.{least, minimal_from, total_less, total_same}
use Rattle.linear.specs.Tuples.{AtOrBelow, Minimal, Same}
use Rattle.single_spec.specs.First.{iterate}
use Rattle.single_spec.specs.Graph.{Circulation, Graph, goes_on, is_circuit, lowest, flow, named, next, order, size, leaving}
use Rattle.single_spec.proofs.FirstLaws.{eqb_from, first_found, first_of}
use Rattle.single_spec.proofs.GraphLaws.{lowest_below, lowest_inside, lowest_named}
use Rattle.single_spec.specs.Returns.{Returns}
use Rattle.single_spec.proofs.Returns.{apart, comes_back, returns_from}
use Rattle.single_spec.proofs.Visits.{flow_same, flow_some, flow_term, size_total, total_visits, visits, visits_at, visits_balanced, visits_once}
use Rattle.single_spec.proofs.Visits.{visits_some}
use Rattle.single_spec.specs.Circuits.{Circuit, Cut, K, N, w}

-- ---- the arc that leaves a node

module _ (n : Graph) (x : ℕ → ℕ) where
  pub leaving_is : (i : ℕ) → leaving n x i < n.arcs → (0 < x (leaving n x i)) × (n.tail (leaving n x i) ≡ i)
  unfolding leaving
  leaving_is i l =
      let k = leaving n x i in
      let (a, b) = and_parts (named x k) (eqb (n.tail k) i) ((first_of n.arcs (λ k. named x k && eqb (n.tail k) i)).holds l) in
      (ltb→lt 0 (x k) a, eqb→eq (n.tail k) i b)

  pub leaving_found : (i j : ℕ) → j < n.arcs → 0 < x j → n.tail j ≡ i → leaving n x i < n.arcs
  unfolding leaving
  leaving_found i j l s e =
      omega (
        arith,
        first_found n.arcs (λ k. named x k && eqb (n.tail k) i) j l
            (and_both (named x j) (eqb (n.tail j) i) (lt→ltb 0 (x j) s) (eqb_from _ _ e)),
      )

module _ (n : Graph) (x : ℕ → ℕ) where
  going : (k : ℕ) → T (goes_on n x k) → (order n x (suc k) < n.arcs) × (order n x (suc k) ≢ order n x 0)
  going k t =
      let (a, b) = and_parts (ltb (order n x (suc k)) n.arcs) _ t in
      (ltb→lt (order n x (suc k)) n.arcs a, λ e. T_not (eqb (order n x (suc k)) (order n x 0)) b (eqb_from (order n x (suc k)) (order n x 0) e))

  inside_from : 0 < (K n x) → T (all_to ((K n x) - 1) (goes_on n x)) → (k : ℕ) → k < (K n x) → order n x k < n.arcs
  unfolding iterate
  inside_from some t zero l = lowest_inside n.arcs x some
  inside_from some t (suc k) l = (going k (all_at ((K n x) - 1) (goes_on n x) t k (omega arith))).0

  not_before : T (all_to ((K n x) - 1) (goes_on n x)) → (k : ℕ) → 0 < k → k < (K n x) → order n x k ≢ order n x 0
  not_before t zero s l = absurd (omega arith)
  not_before t (suc k) s l = (going k (all_at ((K n x) - 1) (goes_on n x) t k (omega arith))).1

  pub circuit_from : T (is_circuit n x) → Circuit n x
  unfolding is_circuit iterate
  circuit_from h =
      let (a, h₁) = and_parts (all_to n.arcs (λ j. leb (x j) 1)) _ h in
      let (b, h₂) = and_parts (ltb 0 (K n x)) _ h₁ in
      let (c, d) = and_parts (all_to ((K n x) - 1) (goes_on n x)) _ h₂ in
      let some = ltb→lt 0 (K n x) b in
      record {
        small = λ j l. leb→le (x j) 1 (all_at n.arcs _ a j l);
        inside = inside_from some c;
        returns = record { some = some; back = eqb→eq (order n x (K n x)) (order n x 0) d; not_before = not_before c };
      }

  pub circuit_to : Circuit n x → T (is_circuit n x)
  unfolding is_circuit iterate
  circuit_to r =
      and_both (all_to n.arcs (λ j. leb (x j) 1)) _ (all_from n.arcs _ (λ j l. le→leb (x j) 1 (r.small j l)))
      (and_both (ltb 0 (K n x)) _ (lt→ltb 0 (K n x) r.returns.some)
      (and_both (all_to ((K n x) - 1) (goes_on n x)) _
      (all_from ((K n x) - 1) (goes_on n x)
      (λ k l. and_both (ltb (order n x (suc k)) n.arcs) _ (lt→ltb (order n x (suc k)) n.arcs (r.inside (suc k) (omega arith)))
      (not_T (eqb (order n x (suc k)) (order n x 0))
      (λ t. r.returns.not_before (suc k) (omega arith) (omega arith) (eqb→eq (order n x (suc k)) (order n x 0) t)))))
      (eqb_from (order n x (K n x)) (order n x 0) r.returns.back)))

-- ---- a minimal circulation is a circuit

-- Where what comes in goes out, each arc of the row has a next one in the row.
module _ (n : Graph) (x : ℕ → ℕ) (balanced : (i : ℕ) → flow n.arcs n.head x i ≡ flow n.arcs n.tail x i) where
  pub follows : (j : ℕ) → j < n.arcs → 0 < x j → (next n x j < n.arcs) × (0 < x (next n x j)) × (n.tail (next n x j) ≡ n.head j)
  follows j l s =
      let (k, u, e, g) = flow_some n.arcs n.tail x (n.head j) (omega (arith, flow_term n.arcs n.head x j l, balanced (n.head j))) in
      let v = leaving_found n x (n.head j) k u g e in
      let (a, b) = leaving_is n x (n.head j) v in
      (v, a, b)

  pub goes_on_lem : (j : ℕ) → j < n.arcs → 0 < x j → (k : ℕ) → (iterate (next n x) j k < n.arcs) × (0 < x (iterate (next n x) j k))
  unfolding iterate
  goes_on_lem j l s zero = (l, s)
  goes_on_lem j l s (suc k) = let (a, b) = goes_on_lem j l s k in let (c, d, e) = follows (iterate (next n x) j k) a b in (c, d)

-- visits in the row, none twice, are at or below it
visits_below : (q : ℕ) (x w : ℕ → ℕ) (L : ℕ) → ((k : ℕ) → k < L → 0 < x (w k)) → ((a b : ℕ) → a < b → b < L → w a ≢ w b) → AtOrBelow q (visits w L) x
visits_below q x w L some apart j l =
    elim (split 0 (visits w L j)) [
      | inl h ↦ let (k, u, e) = visits_some w L j h in omega (arith, visits_once w L apart j, some k u, ap x e)
      | inr h ↦ omega arith
    ]

-- From some arc of the row the way leads back. The circuit cut out so is a circulation at or below the row, so it is the row.
module _ (n : Graph) (x : ℕ → ℕ) (b : Minimal n.arcs (Circulation n) x) where
  cut : (Cut n x b)
  cut =
      let (j, l, s) = b.holds.nonzero in
      let (a, L, r) = comes_back (next n x) j n.arcs (λ k. (goes_on_lem n x b.holds.balanced j l s k).0) in
      let (u, v) = goes_on_lem n x b.holds.balanced j l s a in
      record { z = iterate (next n x) j a; L = L; low = u; some = v; returns = r }

  module _ (c : (Cut n x b)) where
    on_way : (k : ℕ) → ((w n x b c) k < n.arcs) × (0 < x ((w n x b c) k))
    on_way k = goes_on_lem n x b.holds.balanced c.z c.low c.some k

    cut_circulation : Circulation n (visits (w n x b c) c.L)
    unfolding iterate
    cut_circulation =
        record {
          balanced = visits_balanced n.arcs n.head n.tail (w n x b c) c.L (λ k l. (on_way k).0)
              (λ k l. (follows n x b.holds.balanced ((w n x b c) k) (on_way k).0 (on_way k).1).2) c.returns.back;
          nonzero = (c.z, c.low, visits_at (w n x b c) c.L 0 c.returns.some);
        }

    cut_same : Same n.arcs (visits (w n x b c) c.L) x
    cut_same = least b (visits (w n x b c) c.L) cut_circulation (visits_below n.arcs x (w n x b c) c.L (λ k l. (on_way k).1) (apart c.returns))

    cut_small : (j : ℕ) → j < n.arcs → x j ≤ 1
    cut_small j l = omega (arith, cut_same j l, visits_once (w n x b c) c.L (apart c.returns) j)

    cut_size : size n.arcs x ≡ c.L
    cut_size = size_total n.arcs x cut_small ∙ sym (total_same (visits (w n x b c) c.L) x n.arcs cut_same)
        ∙ total_visits n.arcs (w n x b c) c.L (λ k l. (on_way k).0)

    low : lowest n.arcs x < n.arcs
    low = omega (arith, lowest_below n.arcs x c.z c.low c.some, c.low)

    cut_returns : Returns (next n x) (lowest n.arcs x) (size n.arcs x)
    cut_returns =
        let (k, l, e) = visits_some (w n x b c) c.L (lowest n.arcs x) (omega (arith, cut_same (lowest n.arcs x) low, lowest_named n.arcs x low)) in
        rw cut_size (rw e at (returns_from c.returns k l))

    cut_circuit : Circuit n x
    cut_circuit =
        record {
          small = cut_small;
          inside = λ k l. (goes_on_lem n x b.holds.balanced (lowest n.arcs x) low (lowest_named n.arcs x low) k).0;
          returns = cut_returns;
        }

  pub minimal_circuit : Circuit n x
  minimal_circuit = cut_circuit cut

-- ---- a circuit is a minimal circulation

module _ (n : Graph) (x : ℕ → ℕ) (r : Circuit n x) where
  -- the arcs on the way are in the row
  pub order_named : (k : ℕ) → k < (N n x r) → 0 < x (order n x k)
  unfolding iterate
  order_named zero l = lowest_named n.arcs x (r.inside 0 l)
  order_named (suc k) l = (leaving_is n x (n.head (order n x k)) (r.inside (suc k) l)).0

  -- "back to the first"
  pub order_back : order n x (N n x r) ≡ order n x 0
  unfolding iterate
  order_back = r.returns.back

  next_inside : (k : ℕ) → k < (N n x r) → order n x (suc k) < n.arcs
  next_inside k l =
      elim (split (suc k) (N n x r)) [
        | inl u ↦ r.inside (suc k) u
        | inr u ↦ let e : suc k ≡ (N n x r) = omega arith in omega (arith, ap (order n x) e, order_back, r.inside 0 r.returns.some)
      ]

  -- "each puts its document (its 1) where the next takes one (its −1)"
  pub order_linked : (k : ℕ) → k < (N n x r) → n.tail (order n x (suc k)) ≡ n.head (order n x k)
  unfolding iterate
  order_linked k l = (leaving_is n x (n.head (order n x k)) (next_inside k l)).1

  -- no arc twice
  pub order_apart : (a b : ℕ) → a < b → b < (N n x r) → order n x a ≢ order n x b
  order_apart = apart r.returns

  -- "passing no tray twice"
  pub nodes_apart : (a b : ℕ) → a < b → b < (N n x r) → n.head (order n x a) ≢ n.head (order n x b)
  unfolding iterate
  nodes_apart a b l u e =
      elim (split (suc b) (N n x r)) [
        | inl h ↦ order_apart (suc a) (suc b) (omega arith) h (ap (leaving n x) e)
        | inr h ↦ let g : suc b ≡ (N n x r) = omega arith in r.returns.not_before (suc a) (omega arith) (omega arith) (ap (leaving n x) e ∙ ap (order n x) g
            ∙ order_back)
      ]

  all_below : AtOrBelow n.arcs (visits (order n x) (N n x r)) x
  all_below = visits_below n.arcs x (order n x) (N n x r) order_named order_apart

  all_same : Same n.arcs (visits (order n x) (N n x r)) x
  all_same j l =
      elim (ℕ_discrete (visits (order n x) (N n x r) j) (x j)) [
        | yes e ↦ e
        | no ne ↦ absurd (omega (
          arith,
          total_less n.arcs all_below j l ne,
          total_visits n.arcs (order n x) (N n x r) r.inside,
          size_total n.arcs x
              r.small,
        ))
      ]

  -- every arc of the row is on the way
  pub order_all : (j : ℕ) → j < n.arcs → 0 < x j → (k : ℕ) × (k < (N n x r)) × (order n x k ≡ j)
  order_all j l s = visits_some (order n x) (N n x r) j (omega (arith, all_same j l))

  pub circuit_circulation : Circulation n x
  circuit_circulation =
      record {
        balanced = λ i. sym (flow_same n.arcs n.head all_same i) ∙ visits_balanced n.arcs n.head n.tail (order n x) (N n x r)
            r.inside order_linked order_back i ∙ flow_same n.arcs n.tail all_same i;
        nonzero = (order n x 0, r.inside 0 r.returns.some, order_named 0 r.returns.some);
      }

  -- each arc on the way is the one of the row that leaves its tail
  only_next : (k : ℕ) → k < (N n x r) → order n x (suc k) ≡ leaving n x (n.tail (order n x (suc k)))
  unfolding iterate
  only_next k l = ap (leaving n x) (sym (order_linked k l))

  pub only : (k : ℕ) → k < (N n x r) → order n x k ≡ leaving n x (n.tail (order n x k))
  only zero l =
      let g : suc ((N n x r) - 1) ≡ (N n x r) = omega arith in
      let h : order n x (suc ((N n x r) - 1)) ≡ order n x 0 = ap (order n x) g ∙ order_back in
      rw h at (only_next ((N n x r) - 1) (omega arith))
  only (suc k) l = only_next k (omega arith)

  -- so only one arc of the row leaves the head of an arc on the way
  pub only_one : (k b j : ℕ) → b < (N n x r) → order n x b ≡ j → n.tail j ≡ n.head (order n x k) → j ≡ order n x (suc k)
  unfolding iterate
  only_one k b j l h e = sym h ∙ only b l ∙ ap (λ i. leaving n x (n.tail i)) h ∙ ap (leaving n x) e

  -- a circulation in the row that has one arc of the way has the next
  module _ (t : ℕ → ℕ) (c : Circulation n t) (below : AtOrBelow n.arcs t x) where
    onward : (k : ℕ) → k < (N n x r) → 0 < t (order n x k) → 0 < t (order n x (suc k))
    onward k l s =
        let (j, u, e, g) = flow_some n.arcs n.tail t (n.head (order n x k))
        (omega (arith, flow_term n.arcs n.head t (order n x k) (r.inside k l), c.balanced (n.head (order n x k)))) in
        let (b, v, h) = order_all j u (omega (arith, below j u)) in
        omega (arith, ap t (only_one k b j v h e))

    far : (k d : ℕ) → k + d ≤ (N n x r) → 0 < t (order n x k) → 0 < t (order n x (k + d))
    far k zero l s = let e : k + 0 ≡ k = omega arith in rw e s
    far k (suc d) l s = let e : k + suc d ≡ suc (k + d) = omega arith in rw e (onward (k + d) (omega arith) (far k d (omega arith) s))

    -- so it has all
    everywhere : (m : ℕ) → m < (N n x r) → 0 < t (order n x m)
    everywhere m l =
        let (j, u, s) = c.nonzero in
        let (k, v, e) = order_all j u (omega (arith, below j u)) in
        let g : k + ((N n x r) - k) ≡ (N n x r) = omega arith in
        let first : 0 < t (order n x 0) = rw (g, order_back) at (far k ((N n x r) - k) (omega arith) (rw e s)) in
        let z : 0 + m ≡ m = omega arith in
        rw z at (far 0 m (omega arith) first)

    circuit_least : Same n.arcs t x
    circuit_least j l =
        elim (split 0 (x j)) [
          | inl s ↦ let (k, u, e) = order_all j l s in omega (arith, everywhere k u, ap t e, below j l, r.small j l)
          | inr s ↦ omega (arith, below j l)
        ]

  pub circuit_minimal : Minimal n.arcs (Circulation n) x
  circuit_minimal = minimal_from circuit_circulation circuit_least
