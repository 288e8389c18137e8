-- The loop of `order_of`: what it has met of a row's order, one more unknown, and the ways out. Assumes nothing.
use Rattle.std.specs.Prelude.{◌≡◌, Bool, List, None, Some, ℕ, suc, ◌+◌, ◌-◌, ◌≤◌, ◌<◌, leb, ltb, length, get_or, set}
use Rattle.std.proofs.Math.Path.{refl, ap}
use Rattle.std.proofs.Common.{sym, ◌∙◌, get_or-set_other, get_or-set_same}
use Rattle.std.proofs.Math.Bool.{true, false, and-false}
use Rattle.std.proofs.Math.Decide.{ℕ_discrete}
use native.Mathlib.Omega.{arith}
use Rattle.std.proofs.Math.ListN.{length-set}
use borrow.Author.Tests.{eq-eqb, le-ltb, lt-ltb, ne_eqb}
use Rattle.linear.proofs.LoopLaws.{all_fails, all_next}
use Rattle.linear.proofs.TestLaws.{count_le, count_step}
use Rattle.linear.specs.Tests.{all_to}
use Rattle.definitions.specs.System.{System}
use Rattle.single_spec.proofs.FirstLaws.{first_of}
use Rattle.single_spec.specs.First.{iterate}
use Rattle.single_spec.specs.Graph.{goes_on, is_circuit, lowest, named, next, size}
use Rattle.single_spec.proofs.GraphLaws.{lowest_inside}
use Rattle.single_spec.specs.Profile.{is_circuit_of, circuit_order, graph}
use Rattle.single_order.specs.Rows.{OrderOf, below_none, below_some, if_so, ones_of, place_below}

abbrev small_row : ℕ → (ℕ → ℕ) → Bool
small_row q x = all_to q (λ j. leb (x j) 1)

-- ---- the test from its parts

module _ (m : System) (x : ℕ → ℕ) where
  abbrev K : ℕ
  K = size m.q x

  pub empty_no_loop : K ≡ 0 → is_circuit_of m x ≡ false
  unfolding is_circuit
  empty_no_loop e = rw (le-ltb 0 K (omega arith)) (and-false (small_row m.q x))

  stopped_no_loop : (k : ℕ) → k < K - 1 → goes_on (graph m) x k ≡ false → is_circuit_of m x ≡ false
  unfolding is_circuit
  stopped_no_loop k l e = rw (all_fails (K - 1) (goes_on (graph m) x) k l e, and-false (ltb 0 K)) (and-false (small_row m.q x))

  open_no_loop : (circuit_order m x K ≡ circuit_order m x 0 → ⊥) → is_circuit_of m x ≡ false
  unfolding is_circuit
  open_no_loop ne =
      rw (ne_eqb (circuit_order m x K) (circuit_order m x 0) ne, and-false (all_to (K - 1) (goes_on (graph m) x)), and-false (ltb 0 K))
      (and-false (small_row m.q x))

  closed_loop : small_row m.q x ≡ true → 0 < K → all_to (K - 1) (goes_on (graph m) x) ≡ true → circuit_order m x K ≡ circuit_order m x 0 → is_circuit_of m x
      ≡ true
  unfolding is_circuit
  closed_loop small some going e = rw (small, lt-ltb 0 K some, going) (eq-eqb (circuit_order m x K) (circuit_order m x 0) e)

  -- a row that is no minimal solution: nothing is said of the array
  pub no_loop : (order : List ℕ) → length order ≡ 16 → is_circuit_of m x ≡ false → OrderOf m x order None
  no_loop order n e = record { result = rw e; ordered = λ k g. absurd (let z : Some k ≡ None = cc in cc); array = n }

  -- ---- the beginning

  pub large_no_loop : (order : List ℕ) → None ≡ ones_of m.q x → length order ≡ 16 → OrderOf m x order None
  unfolding ones_of is_circuit
  large_no_loop order e n = no_loop order n (go (small_row m.q x) refl e)
    where
      go : (b : Bool) → small_row m.q x ≡ b → None ≡ if_so b K → is_circuit_of m x ≡ false
      go true h g = absurd (cc)
      go false h g = rw h

  pub record Begun (r first : ℕ) : Type 0 where
    pub small : small_row m.q x ≡ true
    pub same : r ≡ K
    pub first_is : first ≡ lowest m.q x
    pub inside : first < m.q
    pub some : 0 < r

  named_some : lowest m.q x < m.q → 0 < K
  unfolding lowest size
  named_some l = omega (arith, count_step (named x) (lowest m.q x) m.q l ((first_of m.q (named x)).holds l))

  begun : (r first : ℕ) → Some r ≡ ones_of m.q x → Some first ≡ place_below m.q (lowest m.q x) → Begun r first
  unfolding ones_of
  begun r first e f =
      let b = ones_are (small_row m.q x) refl e in
      let p = below_some f in
      record { small = b.0; same = b.1; first_is = p.0; inside = omega (arith, p.0, p.1); some = omega (arith, b.1, named_some p.1) }
    where
      ones_are : (b : Bool) → small_row m.q x ≡ b → Some r ≡ if_so b K → (small_row m.q x ≡ true) × (r ≡ K)
      ones_are true h g = (h, cc)
      ones_are false h g = absurd (cc)

  -- no unknown in the row
  pub unnamed_no_loop : (order : List ℕ) → None ≡ place_below m.q (lowest m.q x) → length order ≡ 16 → OrderOf m x order None
  unnamed_no_loop order e n =
      no_loop order n
      (elim (ℕ_discrete K 0) [ yes z ↦ empty_no_loop z | no ne ↦ absurd (omega (arith, below_none e, lowest_inside m.q x (omega arith))) ])

  -- The first k unknowns of the order are written, none of them the first again; `at` is the last of them.
  pub record Following (order : List ℕ) (r first at k : ℕ) : Type 0 where
    pub begin : Begun r first
    pub few : r ≤ m.q
    pub some : 0 < k
    pub most : k ≤ r
    pub at_is : at ≡ circuit_order m x (k - 1)
    pub inside : at < m.q
    pub going : all_to (k - 1) (goes_on (graph m) x) ≡ true
    pub written : (i : ℕ) → i < k → get_or order i 0 ≡ circuit_order m x i
    pub low : (i : ℕ) → i < k → get_or order i 0 < m.q
    pub array : length order ≡ 16

  size_few : K ≤ m.q
  unfolding size
  size_few = count_le (named x) m.q

  first_written : (order : List ℕ) (first : ℕ) → length order ≡ 16 → first ≡ circuit_order m x 0 → (i : ℕ) → i < 1 → get_or
      (set order 0 first) i 0 ≡ circuit_order m x i
  first_written order first n e i l = let z : i ≡ 0 = omega arith in rw z (get_or-set_same order 0 first 0 (omega arith) ∙ e)

  first_low : (order : List ℕ) (first : ℕ) → length order ≡ 16 → first < m.q → (i : ℕ) → i < 1 → get_or (set order 0 first) i 0 < m.q
  first_low order first n h i l = let z : i ≡ 0 = omega arith in rw (z, get_or-set_same order 0 first 0 (omega arith)) h

  pub following_first : (order : List ℕ) (r first : ℕ) → Some r ≡ ones_of m.q x → length order ≡ 16 → Some first ≡ place_below m.q (lowest m.q x) → Following
      (set order 0 first) r first first 1
  unfolding iterate all_to
  following_first order r first e n f =
      let b = begun r first e f in
      record {
        begin = b;
        few = omega (arith, size_few, b.same);
        some = omega arith;
        most = omega (arith, b.some);
        at_is = b.first_is;
        inside = b.inside;
        going = refl;
        written = first_written order first n b.first_is;
        low = first_low order first n b.inside;
        array = length-set order 0 first ∙ n;
      }

  -- ---- one more

  module _ {order : List ℕ} {r first at k : ℕ} (h : Following order r first at k) where
    pred_suc : suc (k - 1) ≡ k
    pred_suc = omega (arith, h.some)

    first_at : first ≡ circuit_order m x 0
    unfolding iterate
    first_at = h.begin.first_is

    next_is : (v : ℕ) → v ≡ next (graph m) x at → v ≡ circuit_order m x (suc (k - 1))
    unfolding iterate
    next_is v e = e ∙ ap (next (graph m) x) h.at_is

    goes : (v : ℕ) → v ≡ next (graph m) x at → v < m.q → (v ≡ first → ⊥) → goes_on (graph m) x (k - 1) ≡ true
    goes v e l ne =
        let g = next_is v e in
        rw (← g, lt-ltb v m.q l, ← first_at, ne_eqb v first ne)

    stuck : (v : ℕ) → v ≡ next (graph m) x at → m.q ≤ v → goes_on (graph m) x (k - 1) ≡ false
    stuck v e l = let g = next_is v e in rw (← g, le-ltb v m.q l)

    early : (v : ℕ) → v ≡ next (graph m) x at → v ≡ first → goes_on (graph m) x (k - 1) ≡ false
    early v e f = let g = next_is v e in rw (← g, ← first_at, eq-eqb v first f) (and-false (ltb v m.q))

    stopped : k < r → goes_on (graph m) x (k - 1) ≡ false → OrderOf m x order None
    stopped l e = no_loop order h.array (stopped_no_loop (k - 1) (omega (arith, h.some, h.begin.same)) e)

    pub following_stuck : k < r → None ≡ place_below m.q (next (graph m) x at) → OrderOf m x order None
    following_stuck l e = stopped l (stuck _ refl (below_none e))

    pub following_early : (v : ℕ) → k < r → Some v ≡ place_below m.q (next (graph m) x at) → v ≡ first → OrderOf m x order None
    following_early v l e f = stopped l (early v (below_some e).0 f)

    more_going : goes_on (graph m) x (k - 1) ≡ true → all_to (k + 1 - 1) (goes_on (graph m) x) ≡ true
    more_going g = let e : k + 1 - 1 ≡ k - 1 + 1 = omega (arith, h.some) in rw e (all_next (k - 1) (goes_on (graph m) x) h.going g)

    more_written : (v : ℕ) → k < 16 → v ≡ circuit_order m x k → (i : ℕ) → i < k + 1 → get_or (set order k v) i 0 ≡ circuit_order m x i
    more_written v l e i u =
        elim (ℕ_discrete i k) [
          | yes g ↦ rw g (get_or-set_same order k v 0 (omega (arith, h.array)) ∙ e)
          | no ne ↦ get_or-set_other order k i v 0 ne ∙ h.written i (omega arith)
        ]

    more_low : (v : ℕ) → k < 16 → v < m.q → (i : ℕ) → i < k + 1 → get_or (set order k v) i 0 < m.q
    more_low v l q i u =
        elim (ℕ_discrete i k) [
          | yes g ↦ rw (g, get_or-set_same order k v 0 (omega (arith, h.array))) q
          | no ne ↦ rw (get_or-set_other order k i v 0 ne) (h.low i (omega arith))
        ]

    pub following_next : (v : ℕ) → m.q ≤ 16 → k < r → Some v ≡ place_below m.q (next (graph m) x at) → (v ≡ first → ⊥) → Following
        (set order k v) r first v (k + 1)
    following_next v few l f ne =
        let (e, l1) = below_some f in
        let u : v < m.q = omega arith in
        let here : v ≡ circuit_order m x k = next_is v e ∙ ap (circuit_order m x) pred_suc in
        let back : k + 1 - 1 ≡ k = omega arith in
        record {
          begin = h.begin;
          few = h.few;
          some = omega arith;
          most = omega arith;
          at_is = here ∙ ap (circuit_order m x) (sym back);
          inside = u;
          going = more_going (goes v e u ne);
          written = more_written v (omega (arith, h.few)) here;
          low = more_low v (omega (arith, h.few)) u;
          array = length-set order k v ∙ h.array;
        }

    -- ---- the end

    module _ (all : r ≤ k) where
      at_end : k ≡ K
      at_end = omega (arith, h.most, h.begin.same)

      last_is : next (graph m) x at ≡ circuit_order m x K
      last_is = next_is _ refl ∙ ap (circuit_order m x) (pred_suc ∙ at_end)

      end_going : all_to (K - 1) (goes_on (graph m) x) ≡ true
      end_going = rw at_end at h.going

      pub following_closed : place_below m.q (next (graph m) x at) ≡ Some first → OrderOf m x order (Some r)
      following_closed e =
          let loop = closed_loop h.begin.small (omega (arith, h.begin.same, h.begin.some)) end_going (sym last_is ∙ sym (below_some (sym e)).0 ∙ first_at) in
          record {
            result = rw loop (ap Some h.begin.same);
            ordered = λ i g. let z : r ≡ i = cc in rw (← z)
                (record { some = h.begin.some; few = h.few; written = λ j l. h.written j (omega arith); low = λ j l. h.low j (omega arith) });
            array = h.array;
          }

      pub following_open : (place_below m.q (next (graph m) x at) ≡ Some first → ⊥) → OrderOf m x order None
      following_open ne =
          no_loop order h.array (open_no_loop (λ g. ne
          (let e : next (graph m) x at ≡ first = last_is ∙ g ∙ sym first_at in rw (e, lt-ltb first m.q h.begin.inside))))
