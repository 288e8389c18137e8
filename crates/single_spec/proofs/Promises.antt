-- Theorems about what specs/Promises.antt defines. Assumes nothing.
use Rattle.std.specs.Prelude.{◌≡◌, refl, ◌⊎◌, ℕ, zero, suc, ◌≤◌, ◌<◌, T}
use Rattle.std.proofs.Common.{sym, ◌∙◌, ap, inl, inr, arith, T_not}
use Rattle.std.proofs.Math.Dec.{not_T}
use Rattle.linear.proofs.Cases.{split}
use Rattle.linear.proofs.TupleLaws.{total_same}
use Rattle.linear.specs.Tuples.{Same}
use Rattle.definitions.specs.Answers.{go}
use Rattle.definitions.specs.System.{MinimalSolution, System, column}
use Rattle.laws.specs.CheckLaws.{Decides, placed}
use Rattle.laws.proofs.CheckLaws.{decides_first}
use Rattle.single_spec.specs.First.{iterate}
use Rattle.single_spec.proofs.GraphLaws.{lowest_below}
use Rattle.single_spec.specs.Profile.{InProfile, SingleFile, check26, check30, in_profile, is_circuit_of, graph, head_of}
use Rattle.single_spec.proofs.ProfileLaws.{IdleAt, ArcAt, circulation_minimal, column_kinds, minimal_circulation, profile_from, profile_to, head_only}
use Rattle.single_spec.proofs.ProfileLaws.{tail_only}
use Rattle.single_spec.specs.Circuits.{Circuit}
use Rattle.single_spec.proofs.Circuits.{minimal_circuit, only_one, order_all, order_apart, order_back, order_linked, order_named}
use Rattle.single_spec.proofs.Circuits.{circuit_from, circuit_minimal, circuit_to, nodes_apart}
use Rattle.single_spec.proofs.Visits.{size_total, total_visits, visits, visits_at, visits_once, visits_some}
use Rattle.single_spec.specs.Promises.{ClosedWalk, K, Ordered, SolutionsOf, ZeroColumn, o}

-- "26, a column outside the profile, with the first such column"
pub refuses_26 : (m : System) → Decides (check26 m) (placed 26 m.q (λ j. ¬ (InProfile m.p (column m j))))
unfolding check26
refuses_26 m =
    decides_first 26 m.q _ _ (λ j l t h. T_not (in_profile m.p (column m j)) t (profile_to m.p (column m j) h))
    (λ j l none. not_T (in_profile m.p (column m j)) (λ t. none (profile_from m.p (column m j) t)))

-- ---- why

module _ (m : System) (profile : SingleFile m) (x : ℕ → ℕ) where
  test_minimal : T (is_circuit_of m x) → MinimalSolution m x
  test_minimal t = circulation_minimal m profile (circuit_minimal (graph m) x (circuit_from (graph m) x t))

  solution_circuit : MinimalSolution m x → Circuit (graph m) x
  solution_circuit b = minimal_circuit (graph m) x (minimal_circulation m profile b)

  module _ (r : Circuit (graph m) x) where
    -- a column of zeros on the way is followed by itself, so it is alone
    idle_alone : (k : ℕ) → k < (K m profile x r) → IdleAt m ((o m profile x r) k) → (K m profile x r) ≡ 1
    idle_alone k l h =
        let e : (o m profile x r) (suc k) ≡ (o m profile x r) k = stays in
        elim (split (suc k) (K m profile x r)) [
          | inl u ↦ absurd (order_apart (graph m) x r k (suc k) (omega arith) u (sym e))
          | inr u ↦ last e u k refl
        ]
      where
        stays : (o m profile x r) (suc k) ≡ (o m profile x r) k
        stays = sym (only_one (graph m) x r k k ((o m profile x r) k) l refl (h.tail_none ∙ sym h.head_none))

        last : (o m profile x r) (suc k) ≡ (o m profile x r) k → (K m profile x r) ≤ suc k → (i : ℕ) → k ≡ i → (K m profile x r) ≡ 1
        last e u zero g = omega arith
        last e u (suc i) g =
            let f : suc k ≡ (K m profile x r) = omega arith in
            absurd (order_apart (graph m) x r 0 k (omega arith) l (sym (order_back (graph m) x r) ∙ ap (o m profile x r) (sym f) ∙ e))

    -- where the first column is an arc each is
    all_arcs : ArcAt m ((o m profile x r) 0) → (k : ℕ) → k < (K m profile x r) → ArcAt m ((o m profile x r) k)
    all_arcs h k l =
        elim (column_kinds m profile ((o m profile x r) k) (r.inside k l)) [
          | inl g ↦ g
          | inr g ↦
              let one = idle_alone k l g in
              let e : k ≡ 0 = omega arith in
              rw e h
        ]

    next_arc : ArcAt m ((o m profile x r) 0) → (k : ℕ) → k < (K m profile x r) → ArcAt m ((o m profile x r) (suc k))
    next_arc h k l =
        elim (split (suc k) (K m profile x r)) [
          | inl u ↦ all_arcs h (suc k) u
          | inr u ↦ let e : suc k ≡ (K m profile x r) =
              omega arith in let g : (o m profile x r) (suc k) ≡ (o m profile x r) 0 = ap (o m profile x r) e ∙ order_back (graph m) x r in rw g h
        ]

    circuit_way : ZeroColumn m (K m profile x r) (o m profile x r) ⊎ ClosedWalk m (K m profile x r) (o m profile x r)
    circuit_way =
        elim (column_kinds m profile ((o m profile x r) 0) (r.inside 0 r.returns.some)) [
          | inl h ↦ inr (record {
            node = λ k. head_of m ((o m profile x r) k);
            inside = λ k l. (all_arcs h k l).head_node;
            head = λ k l. (all_arcs h k l).one;
            tail = λ k l. rw (← order_linked (graph m) x r k l) (next_arc h k l).minus_one;
            back = order_back (graph m) x r;
            no_node_twice = nodes_apart (graph m) x r;
          })
          | inr h ↦ inl (record { alone = idle_alone 0 r.returns.some h; zeros = h.zeros })
        ]

    circuit_ordered : Ordered m x (K m profile x r) (o m profile x r)
    circuit_ordered =
        record {
          named = λ k l. (r.inside k l, order_named (graph m) x r k l);
          all = order_all (graph m) x r;
          once = order_apart (graph m) x r;
          some = r.returns.some;
          begins = λ j l s. unfold iterate in (lowest_below m.q x j l s);
          way = circuit_way;
        }

    -- an order visits each unknown of the minimal solution once
    module _ (K' : ℕ) (o' : ℕ → ℕ) (d : Ordered m x K' o') where
      other_visits : Same m.q (visits o' K') x
      other_visits j l =
          let most = visits_once o' K' d.once j in
          elim (split 0 (x j)) [
            | inl s ↦ let (k, u, e) = d.all j l s in omega (arith, visits_at o' K' k u, ap (visits o' K') e, r.small j l)
            | inr s ↦ elim (split 0 (visits o' K' j)) [
              | inl v ↦ let (k, u, e) = visits_some o' K' j v in absurd (omega (arith, (d.named k u).1, ap x e))
              | inr v ↦ omega arith
            ]
          ]

      other_size : K' ≡ (K m profile x r)
      other_size =
          sym (total_visits m.q o' K' (λ k l. (d.named k l).0)) ∙ total_same (visits o' K') x m.q other_visits ∙ sym (size_total m.q x r.small)

      other_first : o' 0 ≡ (o m profile x r) 0
      other_first =
          let (a, b) = d.named 0 d.some in
          omega (
            arith,
            d.begins ((o m profile x r) 0) (r.inside 0 r.returns.some) (order_named (graph m) x r 0 r.returns.some),
            circuit_ordered.begins (o' 0) a
                b,
          )

      -- the next has its tail at the head of this one, and only one unknown of the minimal solution has
      other_next : (k : ℕ) → suc k < K' → o' k ≡ (o m profile x r) k → o' (suc k) ≡ (o m profile x r) (suc k)
      other_next k l e =
          elim d.way [
            | inl z ↦ absurd (omega (arith, z.alone))
            | inr w ↦
                let here = d.named k (omega arith) in
                let there = d.named (suc k) l in
                let (b, u, g) = order_all (graph m) x r (o' (suc k)) there.0 there.1 in
                let head = head_only m profile (w.node k) (o' k) (w.inside k (omega arith)) here.0 (w.head k (omega arith)) in
                let tail = tail_only m profile (w.node k) (o' (suc k)) (w.inside k (omega arith)) there.0 (w.tail k (omega arith)) in
                only_one (graph m) x r k b (o' (suc k)) u g (tail ∙ sym head ∙ ap (head_of m) e)
          ]

      other_same : (k : ℕ) → k < K' → o' k ≡ (o m profile x r) k
      other_same zero l = other_first
      other_same (suc k) l = other_next k l (other_same k (omega arith))

pub single_file_solutions : (m : System) → SingleFile m → SolutionsOf m
unfolding check30
single_file_solutions m profile =
    record {
      zero_or_one = λ x b. (solution_circuit m profile x b).small;
      ordered = λ x b. circuit_ordered m profile x (solution_circuit m profile x b);
      no_other = λ x b K o d. (other_size m profile x (solution_circuit m profile x b) K o d, other_same m profile x (solution_circuit m profile x b) K o d);
      test = λ x. (test_minimal m profile x, λ b. circuit_to (graph m) x (solution_circuit m profile x b));
      refuses_30 = λ found row.
          decides_first 30 found _ _ (λ i l t b. T_not (is_circuit_of m (row i)) t (circuit_to (graph m) (row i) (solution_circuit m profile (row i) b)))
          (λ i l none. not_T (is_circuit_of m (row i)) (λ t. none (test_minimal m profile (row i) t)));
    }

-- the list of a run on such a map, which holds minimal solutions only, is never refused with 30
pub listed_goes : (m : System) → SingleFile m → (found : ℕ) (row : ℕ → ℕ → ℕ) → ((i : ℕ) → i < found → MinimalSolution m (row i)) → check30 m found row ≡ go
listed_goes m profile found row each = ((single_file_solutions m profile).refuses_30 found row).silent (λ i l none. none (each i l))
