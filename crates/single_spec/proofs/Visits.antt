-- How much of a row flows at a node; the row of how often each arc is visited; and that a closed walk is balanced.
-- Assumes nothing.
use Rattle.std.specs.Prelude.{◌≡◌, refl, ◌≢◌, Bool, true, false, ℕ, zero, suc, ◌+◌, ◌≤◌, ◌<◌, T, ltb}
use Rattle.std.proofs.Math.Path.{sym}
use Rattle.std.proofs.Common.{◌∙◌, ap, inl, inr, arith, eq-eqb, ne_eqb}
use Rattle.std.proofs.Math.Dec.{eqb, eqb→eq, eqb_refl}
use Rattle.linear.specs.Cases.{below_suc}
use Rattle.linear.proofs.Cases.{order, split}
use Rattle.linear.proofs.TestLaws.{count_at, count_same, count_step, number_true}
use Rattle.linear.specs.Tests.{count_to, number}
use Rattle.linear.specs.TupleLaws.{total_none, total_sum}
use Rattle.linear.proofs.TupleLaws.{term_le_total, total_same, total_some}
use Rattle.linear.specs.Tuples.{Same, total}
use Rattle.single_spec.specs.Graph.{gate, flow, size}

-- ---- counts

pub count_all : (n : ℕ) (f : ℕ → Bool) → ((i : ℕ) → i < n → T (f i)) → count_to n f ≡ n
unfolding count_to
count_all zero f h = refl
count_all (suc n) f h = omega (arith, count_all n f (λ i l. h i (omega arith)), number_true (f n) (h n (omega arith)))

-- a count from the second place on
pub count_shift : (n : ℕ) (f : ℕ → Bool) → count_to n (λ i. f (suc i)) + number (f 0) ≡ count_to n f + number (f n)
unfolding count_to
count_shift zero f = refl
count_shift (suc n) f = omega (arith, count_shift n f)

-- what holds at no two places is counted at most once
pub count_once : (n : ℕ) (f : ℕ → Bool) → ((a b : ℕ) → a < b → b < n → T (f a) → T (f b) → ⊥) → count_to n f ≤ 1
count_once n f none = elim (split 1 (count_to n f)) [ inl l ↦ absurd (twice l) | inr l ↦ l ]
  where
    twice : 1 < count_to n f → ⊥
    twice l =
        let (a, la, ta, ca) = count_at f n 0 (omega arith) in
        let (b, lb, tb, cb) = count_at f n 1 l in
        elim (order a b) [
          | inl h ↦ none a b h lb ta tb
          | inr (inl e) ↦ omega (arith, ap (λ k. count_to k f) e)
          | inr (inr h) ↦ none b a h la tb ta
        ]

-- the sum of a row of 0 and 1 is the number of arcs that it names
pub size_total : (q : ℕ) (x : ℕ → ℕ) → ((j : ℕ) → j < q → x j ≤ 1) → size q x ≡ total x q
unfolding size count_to total
size_total zero x h = refl
size_total (suc q) x h = omega (arith, size_total q x (λ j l. h j (omega arith)), one (x q) (h q (omega arith)))
  where
    one : (k : ℕ) → k ≤ 1 → number (ltb 0 k) ≡ k
    one zero l = refl
    one (suc k) l = let e : k ≡ 0 = omega arith in rw e

-- ---- what flows at a node

gate_yes : (b : Bool) (k : ℕ) → T b → gate b k ≡ k
gate_yes true k h = refl
gate_yes false k h = absurd h

gate_zero : (b : Bool) {k : ℕ} → k ≡ 0 → gate b k ≡ 0
gate_zero true e = e
gate_zero false e = refl

gate_some : (b : Bool) (k : ℕ) → 0 < gate b k → T b × (0 < k)
gate_some true k l = (tt, l)
gate_some false k l = absurd (omega arith)

gate_sum : (b : Bool) (k l : ℕ) → gate b (k + l) ≡ gate b k + gate b l
gate_sum true k l = refl
gate_sum false k l = omega arith

gate_number : (b : Bool) → gate b 1 ≡ number b
gate_number true = refl
gate_number false = refl

-- an arc's part of the flow is at its own node
pub flow_term : (q : ℕ) (node x : ℕ → ℕ) (j : ℕ) → j < q → x j ≤ flow q node x (node j)
unfolding flow
flow_term q node x j l =
    omega (arith, gate_yes (eqb (node j) (node j)) (x j) (eqb_refl (node j)), term_le_total (λ k. gate (eqb (node k) (node j)) (x k)) q j l)

-- where something flows it is some arc's part
pub flow_some : (q : ℕ) (node x : ℕ → ℕ) (i : ℕ) → 0 < flow q node x i → (j : ℕ) × (j < q) × (node j ≡ i) × (0 < x j)
unfolding flow
flow_some q node x i l =
    let (j, u, h) = total_some (λ k. gate (eqb (node k) i) (x k)) q (omega arith) in
    let (e, g) = gate_some (eqb (node j) i) (x j) h in
    (j, u, eqb→eq (node j) i e, g)

pub flow_same : (q : ℕ) (node : ℕ → ℕ) {x y : ℕ → ℕ} → Same q x y → (i : ℕ) → flow q node x i ≡ flow q node y i
unfolding flow
flow_same q node e i = total_same _ _ q (λ j l. ap (gate (eqb (node j) i)) (e j l))

-- ---- visits

-- how often each arc is among the first L that w visits
unfoldable pub visits : (ℕ → ℕ) → ℕ → ℕ → ℕ
visits w L j = count_to L (λ k. eqb (w k) j)

module _ (w : ℕ → ℕ) (L : ℕ) where
  pub visits_at : (k : ℕ) → k < L → 0 < visits w L (w k)
  unfolding visits
  visits_at k l = omega (arith, count_step (λ i. eqb (w i) (w k)) k L l (eqb_refl (w k)))

  pub visits_some : (j : ℕ) → 0 < visits w L j → (k : ℕ) × (k < L) × (w k ≡ j)
  unfolding visits
  visits_some j l = let (k, u, t, c) = count_at (λ i. eqb (w i) j) L 0 l in (k, u, eqb→eq (w k) j t)

  pub visits_once : ((a b : ℕ) → a < b → b < L → w a ≢ w b) → (j : ℕ) → visits w L j ≤ 1
  unfolding visits
  visits_once apart j = count_once L (λ i. eqb (w i) j) (λ a b l u s t. apart a b l u (eqb→eq (w a) j s ∙ sym (eqb→eq (w b) j t)))

flow_one : (q : ℕ) (node : ℕ → ℕ) (a i : ℕ) → a < q → total (λ j. gate (eqb (node j) i) (number (eqb a j))) q ≡ number (eqb (node a) i)
unfolding total
flow_one zero node a i l = absurd (omega arith)
flow_one (suc q) node a i l =
    elim (below_suc l) [
      | inl k ↦ omega (arith, flow_one q node a i k, gate_zero (eqb (node q) i) (ap number (ne_eqb a q (omega arith))))
      | inr e ↦ omega (
        arith,
        total_none (λ j. gate (eqb (node j) i) (number (eqb a j))) q (λ j u. gate_zero (eqb (node j) i) (ap number (ne_eqb a j (omega arith)))),
        ap (λ b. gate (eqb (node q) i) (number b)) (eq-eqb a q e),
        gate_number (eqb (node q) i),
        ap (λ x. number (eqb (node x) i)) e,
      )
    ]

-- each visit counts one
pub flow_visits : (q : ℕ) (node w : ℕ → ℕ) (L i : ℕ) → ((k : ℕ) → k < L → w k < q) → flow q node (visits w L) i ≡ count_to L (λ k. eqb (node (w k)) i)
unfolding flow visits count_to
flow_visits q node w zero i inside = total_none (λ j. gate (eqb (node j) i) 0) q (λ j l. gate_zero (eqb (node j) i) refl)
flow_visits q node w (suc L) i inside =
    omega (
      arith,
      total_sum (λ j. gate (eqb (node j) i) (count_to L (λ k. eqb (w k) j) + number (eqb (w L) j)))
          (λ j. gate (eqb (node j) i) (count_to L (λ k. eqb (w k) j))) (λ j. gate (eqb (node j) i) (number (eqb (w L) j))) q
          (λ j l. gate_sum (eqb (node j) i) (count_to L (λ k. eqb (w k) j)) (number (eqb (w L) j))),
      flow_visits q node w L i (λ k l. inside k (omega arith)),
      flow_one q node (w L) i (inside L (omega arith)),
    )

pub total_visits : (q : ℕ) (w : ℕ → ℕ) (L : ℕ) → ((k : ℕ) → k < L → w k < q) → total (visits w L) q ≡ L
unfolding flow
total_visits q w L inside = flow_visits q (λ j. 0) w L 0 inside ∙ count_all L (λ k. true) (λ k l. tt)

-- a closed walk, in which each arc has its head at the tail of the next, is balanced
pub visits_balanced : (q : ℕ) (head tail w : ℕ → ℕ) (L : ℕ) → ((k : ℕ) → k < L → w k < q) → ((k : ℕ) → k < L → tail (w (suc k)) ≡ head (w k)) → w L ≡ w 0
    → (i : ℕ) → flow q head (visits w L) i ≡ flow q tail (visits w L) i
visits_balanced q head tail w L inside linked closed i =
    flow_visits q head w L i inside
    ∙ count_same (λ k. eqb (head (w k)) i) (λ k. eqb (tail (w (suc k))) i) L (λ k l. ap (λ t. eqb t i) (sym (linked k l)))
    ∙ omega (arith, count_shift L (λ k. eqb (tail (w k)) i), ap (λ j. number (eqb (tail j) i)) closed)
    ∙ sym (flow_visits q tail w L i inside)
