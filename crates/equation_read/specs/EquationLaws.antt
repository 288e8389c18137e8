-- A whole equation: the row that is written, and the outcome, case by case. Assumes nothing.
use Rattle.std.specs.Prelude.{ℕ, zero, suc, ◌+◌, ◌≤◌, ◌<◌, max, Bool, true, false, ◌||◌, ◌≡◌, ltb, ℤ, pos, nat_abs, ◌-ℤ◌, length}
use mathlib.Core.List.{List, [], ◌∷◌}
use Rattle.std.proofs.Math.Path.{refl, ap}
use Rattle.std.proofs.Common.{sym, ap₂, ◌∙◌, add-one, arith}
use Rattle.std.proofs.Math.IntN.{neg_ℤ}
use Rattle.std.proofs.Math.ListN.{get_or}
use borrow.Author.Tests.{ne_eqb, eq-eqb, lt-ltb, le-ltb, le-leb, lt-leb, ltb-false}
use Rattle.linear.proofs.Integers.{nat_abs_negℤ}
use Rattle.linear.specs.Terms.{#◌, ◌⊕◌, ⊖◌}
use Rattle.linear.proofs.Terms.{ring}
use Rattle.definitions.specs.Answers.{go, refuse_with, refuse_first, ◌then◌}
use Rattle.definitions.specs.System.{coef_limit}
use Rattle.definitions.specs.Refusals.{out_of_range}
use Rattle.texts.proofs.FirstLaws.{none_refused, first_refused}
use Rattle.texts.specs.Reading.{most_bytes, Parse, parsed, malformed}
use Rattle.equation_spec.specs.Grammar.{Equation, Reads}
use Rattle.equation_spec.specs.Meaning.{of_sum, coefficient, right_side, sum_depth, sum_exceeds}
use Rattle.equation_spec.specs.Reader.{read_equation}
use Rattle.equation_spec.specs.Scan.{place}
use Rattle.equation_spec.specs.Outcome.{Outcome, accepted, checked, list, most_depth, limits, tree_outcome, outcome}
use Rattle.equation_spec.proofs.Agreement.{read_any, read_reads}
use Rattle.equation_spec.proofs.PlaceLaws.{reads_placed}
use Rattle.equation_read.specs.Answer.{read, refused, answered, totals_outcome, Ranged}

-- ---- the row

list_eq : (zs : List ℤ) (k : ℕ) (f : ℕ → ℤ) → ((j : ℕ) → j < length zs → get_or zs j (pos 0) ≡ f (k + j)) → zs ≡ list (length zs) k f
unfolding list
list_eq [] k f h = refl
list_eq (z ∷ zs) k f h =
    let e : k + 0 ≡ k = omega arith in
    ap₂ (λ x y. x ∷ y) (rw e at (h 0 (omega arith)))
    (list_eq zs (suc k) f (λ j m. let e : suc k + j ≡ k + suc j = omega arith in rw e (h (suc j) (omega arith))))

pub row_all : (row ts : List ℤ) (q i : ℕ) → length row ≡ q → i ≤ q → q ≤ i → ((j : ℕ) → j < i → get_or row j (pos 0) ≡ get_or ts (suc j) (pos 0))
    → row ≡ list q 1 (λ k. get_or ts k (pos 0))
row_all row ts q i e l m h =
    rw (sym e) (list_eq row 1 (λ k. get_or ts k (pos 0)) (λ j n. let x : 1 + j ≡ suc j = omega arith in rw x (h j (omega arith))))

-- ---- the totals

module _ (q : ℕ) (ts row : List ℤ) where
  abbrev pub out_at : ℕ → Bool
  out_at i = out_of_range (get_or ts (suc i) (pos 0))

  negated_range : (z : ℤ) → out_of_range (neg_ℤ z) ≡ out_of_range z
  negated_range z = ap (ltb coef_limit) (nat_abs_negℤ z)

  abbrev at_place : ℕ → Bool
  at_place i = out_of_range (get_or ts (i + 1) (pos 0))

  same_place : (i : ℕ) → at_place i ≡ out_at i
  same_place i = ap (λ k. out_of_range (get_or ts k (pos 0))) (add-one i)

  pub coefficient_out : {i : ℕ} → (i < q) × (at_place i ≡ true) × ((j : ℕ) → j < i → at_place j ≡ false)
      → refused 7 ((i + 1) ∷ []) row ≡ answered (totals_outcome q ts) row
  unfolding answered totals_outcome checked ◌then◌
  coefficient_out {i} (l, e, f) = rw (first_refused 7 q out_at (l, sym (same_place i) ∙ e, λ j m. sym (same_place j) ∙ f j m))

  pub none_out : ((i : ℕ) → i < q → at_place i ≡ false) → refuse_first 7 q out_at ≡ go
  none_out f = none_refused 7 q out_at (λ j m. sym (same_place j) ∙ f j m)

  pub right_out : refuse_first 7 q out_at ≡ go → out_of_range (get_or ts 0 (pos 0)) ≡ true → refused 15 [] row ≡ answered (totals_outcome q ts) row
  unfolding answered totals_outcome checked ◌then◌ refuse_with
  right_out h e = rw (h, negated_range (get_or ts 0 (pos 0)), e)

  pub all_in : refuse_first 7 q out_at ≡ go → out_of_range (get_or ts 0 (pos 0)) ≡ false → {after : List ℤ} {right : ℤ}
      → after ≡ list q 1 (λ k. get_or ts k (pos 0))
      → right ≡ neg_ℤ (get_or ts 0 (pos 0))
      → read right after ≡ answered (totals_outcome q ts) row
  unfolding answered totals_outcome checked ◌then◌ refuse_with
  all_in h e x y = rw (h, negated_range (get_or ts 0 (pos 0)), e, x, y)

pub ranged : (q : ℕ) (ts : List ℤ) → ((i : ℕ) → i < q → out_of_range (get_or ts (i + 1) (pos 0)) ≡ false) → Ranged q ts
ranged q ts f = record { range = λ i l. rw (add-one i) at (ltb-false 10000 (nat_abs (get_or ts (i + 1) (pos 0))) (f i l)) }

-- ---- the reading

refuse_cong : (n k : ℕ) (f g : ℕ → Bool) → ((i : ℕ) → f i ≡ g i) → refuse_first n k f ≡ refuse_first n k g
unfolding refuse_first
refuse_cong n zero f g h = refl
refuse_cong n (suc k) f g h = rw (refuse_cong n k f g h, h k)

list_cong : (n k : ℕ) (f g : ℕ → ℤ) → ((i : ℕ) → f i ≡ g i) → list n k f ≡ list n k g
unfolding list
list_cong zero k f g h = refl
list_cong (suc n) k f g h = ap₂ (λ x y. x ∷ y) (h k) (list_cong n (suc k) f g h)

module _ (q : ℕ) (few : q ≤ 16) (e : Equation) (t : List ℕ) (reads : Reads q e t) (row : List ℤ) where
  abbrev Whole : Outcome
  Whole = tree_outcome q t (read_equation q (length t) t)

  whole_is : Whole ≡ checked (limits q e) (accepted (list q 1 (coefficient e)) (right_side e))
  unfolding tree_outcome
  whole_is = rw (read_any q e t few reads)

  pub too_deep : most_depth < max (sum_depth e.left) (sum_depth e.right) → refused 17 [] row ≡ answered Whole row
  unfolding limits checked ◌then◌ refuse_with answered
  too_deep l = rw (whole_is, lt-ltb most_depth _ l)

  module _ (l : max (sum_depth e.left) (sum_depth e.right) ≤ most_depth) where
    pub exceeding : (sum_exceeds e.left 1 || sum_exceeds e.right 1) ≡ true → refused 18 [] row ≡ answered Whole row
    unfolding limits checked ◌then◌ refuse_with answered
    exceeding h = rw (whole_is, le-ltb most_depth _ l, h)

    pub from_totals : (ts : List ℤ) → (sum_exceeds e.left 1 || sum_exceeds e.right 1) ≡ false
        → ((i : ℕ) → get_or ts i (pos 0) ≡ of_sum e.left i -ℤ of_sum e.right i)
        → answered (totals_outcome q ts) row ≡ answered Whole row
    unfolding limits checked ◌then◌ refuse_with totals_outcome coefficient right_side
    from_totals ts h v =
        let r : neg_ℤ (get_or ts 0 (pos 0)) ≡ of_sum e.right 0 -ℤ of_sum e.left 0 =
        ap neg_ℤ (v 0) ∙ ring (⊖ (# of_sum e.left 0 ⊕ ⊖ (# of_sum e.right 0))) (# of_sum e.right 0 ⊕ ⊖ (# of_sum e.left 0)) (omega arith)
        in
        ap (λ o. answered o row)
        (rw (
          refuse_cong 7 q (λ i. out_of_range (get_or ts (suc i) (pos 0))) (λ i. out_of_range (of_sum e.left (suc i) -ℤ of_sum e.right (suc i)))
              (λ i. ap out_of_range (v (suc i))),
          list_cong q 1 (λ k. get_or ts k (pos 0)) (λ k. of_sum e.left k -ℤ of_sum e.right k) v,
          r,
        )
        (sym (whole_is ∙ rw (le-ltb most_depth _ l, h))))

-- ---- the refusals in their order: a text t, q unknowns, and a row of n numbers

module _ (q n : ℕ) (t : List ℕ) (row : List ℤ) where
  pub too_long : most_bytes < length t → refused 10 [] row ≡ answered (outcome q n t) row
  unfolding outcome checked ◌then◌ refuse_with answered
  too_long l = rw (lt-ltb most_bytes (length t) l)

  module _ (l : length t ≤ most_bytes) where
    pub no_unknown : q < 1 → refused 2 [] row ≡ answered (outcome q n t) row
    unfolding outcome checked ◌then◌ refuse_with answered
    no_unknown h = rw (le-ltb most_bytes (length t) l, lt-leb 1 q h)

    module _ (some : 1 ≤ q) where
      pub many_unknowns : 16 < q → refused 2 [] row ≡ answered (outcome q n t) row
      unfolding outcome checked ◌then◌ refuse_with answered
      many_unknowns h = rw (le-ltb most_bytes (length t) l, le-leb 1 q some, lt-leb q 16 h)

      module _ (few : q ≤ 16) where
        pub other_row : (n ≡ q → ⊥) → refused 3 [] row ≡ answered (outcome q n t) row
        unfolding outcome checked ◌then◌ refuse_with answered
        other_row h = rw (le-ltb most_bytes (length t) l, le-leb 1 q some, le-leb q 16 few, ne_eqb n q h)

        pub to_tree : n ≡ q → answered (tree_outcome q t (read_equation q (length t) t)) row ≡ answered (outcome q n t) row
        unfolding outcome checked ◌then◌ refuse_with
        to_tree h = rw (le-ltb most_bytes (length t) l, le-leb 1 q some, le-leb q 16 few, eq-eqb n q h)

        pub at_fault : n ≡ q → 0 < place q t → refused 16 (place q t ∷ []) row ≡ answered (outcome q n t) row
        unfolding tree_outcome answered
        at_fault h f = go (read_equation q (length t) t) refl ∙ to_tree h
          where
            unread : (e : Equation) (r : List ℕ) → read_equation q (length t) t ≡ parsed e r → ⊥
            unread e r x = omega (arith, reads_placed q some few e t (read_reads q (length t) t x).0)

            go : (p : Parse Equation) → read_equation q (length t) t ≡ p
                → refused 16 (place q t ∷ []) row ≡ answered (tree_outcome q t (read_equation q (length t) t)) row
            go (parsed e r) x = absurd (unread e r x)
            go malformed x = rw x
