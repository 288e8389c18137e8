-- The ways through a step, from what its parts ensure: the top's tuple t, the marks of the row, the candidates for a child, and the unknowns that make one.
-- Assumes nothing.
use Rattle.std.specs.Prelude.{◌≡◌, refl, ◌≢◌, Bool, true, false, not, ◌&&◌, List, [], ◌++◌, ℕ, ◌+◌, ◌*◌, ◌^◌, ◌≤◌, ◌<◌, T, eqb, ℤ, pos, length, get_or, take}
use Rattle.std.specs.Prelude.{drop, Result, Ok, Err}
use Rattle.std.proofs.Common.{sym, ◌∙◌, ap, arith, take-append-drop, get_or-drop}
use Rattle.std.specs.Int.Signed.{lt_z}
use Rattle.linear.proofs.TestLaws.{is_false}
use Rattle.linear.specs.Tests.{all_to, any_to, count_to}
use Rattle.linear.specs.Tuples.{Same}
use Rattle.definitions.specs.System.{Kind, System, above, capped, is_zero, plain, solves, towards}
use Rattle.definitions.specs.Tables.{RunKind, State, at, frozen}
use Rattle.definitions.specs.Step.{full_for, full_in, level, makes, marks_to, row_of, row_width, to_second, top, write_children}
use Rattle.definitions.specs.Refusals.{step_limit, too_large}
use Rattle.laws.proofs.MarkLaws.{frozen_none, marks_few}
use Rattle.laws.specs.RefusalLaws.{Inside, RowInOrder, SecondFits}
use Rattle.laws.proofs.TableLaws.{row_fits, write_same}
use Rattle.laws.proofs.ValidLaws.{inside_same}
use Rattle.calls.specs.Paper.{system_with}
use Rattle.calls.specs.declared.Refusal.{Refusal}
use Rattle.calls.specs.declared.Refusal.TheVariants.{ComponentLimit}
use Rattle.step.specs.declared.Stepped.{Stepped}
use Rattle.step.specs.declared.Stepped.TheVariants.{Grown}
use Rattle.table_rows.specs.Rows.{tuple, Holds, Limited, Within}
use Rattle.products.specs.Marks.{Marked, any_over, any_zero, marks_below, marks_zero, marks_counted, marks_frozen, marks_over}
use Rattle.products.specs.Products.{Gram, Combined, Products, entry}
use Rattle.products.specs.ProductLaws.{level_products, combined_less}
use Rattle.candidates.specs.Grow.{child_for}
use Rattle.candidates.specs.GrowLaws.{child_beside, child_free, closed_child, row_agrees}
use Rattle.candidates.specs.Kinds.{asked, beside}
use Rattle.step.proofs.Solved.{product_towards, vanish_solves}
use Rattle.step.proofs.StateLaws.{child_makes, count_by, grown_by, too_large_by}
use Rattle.products.specs.Totals.{Totals, totals_less}
use Rattle.step.specs.Pushed.{Parent}
use Rattle.step.proofs.Pushed.{none_pushed}
use Rattle.step.specs.Enlisting.{Enlisted, list_answer, lists_after}
use Rattle.step.specs.Taken.{Standing, Steps, Taken, height_by}
use Rattle.step.proofs.Taken.{step_full, step_grown, step_large, step_listed, step_listed₂}

-- which list a tuple goes to is read of tuples that agree below q
to_second_same : (k : Kind) {q : ℕ} {x y : ℕ → ℕ} → 0 < q → Same q x y → to_second k x ≡ to_second k y
to_second_same plain some e = refl
to_second_same capped some e = rw (e 0 some)
to_second_same (above f) some e = refl

full_beside : (b : Bool) (w : ℕ) (s : State) (run : RunKind) (n n₂ d : ℕ) → full_in b w (beside s run n n₂ d) ≡ full_in b w s
full_beside true w s run n n₂ d = refl
full_beside false w s run n n₂ d = refl

-- the part of a table from a place on was lent, and came back as it was
pub part_back : (table : List ℕ) (base k : ℕ) {new : List ℕ} → new ≡ take k (drop base table) → take base table ++ (new ++ drop k (drop base table)) ≡ table
part_back table base k e = rw e (ap (λ (r : List ℕ). take base table ++ r) (take-append-drop k (drop base table)) ∙ take-append-drop base table)

-- ---- the lists and their counts are all that the parts of a step are told

pub second_asked : (k : Kind) (q : ℕ) (s : State) → SecondFits k q s → SecondFits k q (asked [] s.list s.second 0 s.run.found s.run.found2)
second_asked plain q s h = h
second_asked capped q s h = h
second_asked (above f) q s h = h

pub enlisted_asked : (k : Kind) (q : ℕ) (stack : List ℕ) (height : ℕ) {list second : List ℕ} {found found2 : ℕ} {x : ℕ → ℕ} {after after₂ : List ℕ}
    {r : Result Stepped Refusal} → Enlisted k q (asked [] list second 0 found found2) x after after₂ r
    → Enlisted k q (asked stack list second height found found2) x after after₂ r
enlisted_asked k q stack height {list} {second} {found} {found2} {x} e =
    let b = to_second k x in
    record {
      answers = e.answers ∙ ap (list_answer b) (full_asked b);
      first =
          e.first ∙ first_asked b (full_in b (row_width k q) (asked [] list second 0 found found2))
          ∙ ap (λ f. (lists_after b f (row_width k q) (asked stack list second height found found2) (row_of k x)).list) (full_asked b);
      other =
          e.other ∙ second_asked₂ b (full_in b (row_width k q) (asked [] list second 0 found found2))
          ∙ ap (λ f. (lists_after b f (row_width k q) (asked stack list second height found found2) (row_of k x)).second) (full_asked b);
    }
  where
    full_asked : (b : Bool)
        → full_in b (row_width k q) (asked [] list second 0 found found2) ≡ full_in b (row_width k q) (asked stack list second height found found2)
    full_asked true = refl
    full_asked false = refl

    first_asked : (b full : Bool)
        → (lists_after b full (row_width k q) (asked [] list second 0 found found2) (row_of k x)).list
        ≡ (lists_after b full (row_width k q) (asked stack list second height found found2) (row_of k x)).list
    first_asked b true = refl
    first_asked false false = refl
    first_asked true false = refl

    second_asked₂ : (b full : Bool)
        → (lists_after b full (row_width k q) (asked [] list second 0 found found2) (row_of k x)).second
        ≡ (lists_after b full (row_width k q) (asked stack list second height found found2) (row_of k x)).second
    second_asked₂ b true = refl
    second_asked₂ false false = refl
    second_asked₂ true false = refl

pub child_asked : (k : Kind) (q : ℕ) (list second : List ℕ) (found found2 : ℕ) (t : ℕ → ℕ) (candidates : ℕ) (stack : List ℕ) (height : ℕ) (j : ℕ)
    → child_for k q (asked [] list second 0 found found2) t candidates j ≡ child_for k q (asked stack list second height found found2) t candidates j
unfolding child_for
child_asked plain q list second found found2 t candidates stack height j = refl
child_asked capped q list second found found2 t candidates stack height j = refl
child_asked (above f) q list second found found2 t candidates stack height j = refl

module _ {k : Kind} {limit q : ℕ} {g : List ℤ} {s : State} {c : List ℤ} {sums : List ℕ} (v : Standing k limit q g s c sums) where
  -- the top's row lies in the stack table
  pub top_fits : level s * (q + 1) + (q + 1) ≤ length s.stack
  top_fits = omega (arith, v.high, v.low, v.long, row_fits (q + 1) (level s) q (omega (arith, v.high, v.low)))

  top_row : RowInOrder k limit q s.stack (level s)
  top_row = v.rows (level s) (omega (arith, v.high))

  module _ {t : List ℕ} (h : Holds q t s.stack (level s * (q + 1))) where
    pub top_within : Within limit q (tuple t)
    top_within = record { at_most = λ j l. rw (h.same j l) (top_row.small j l) }

    pub top_limited : Limited q (tuple t)
    top_limited = record { at_most = λ j l. omega (arith, top_within.at_most j l, v.bounded) }

    pub top_inside : Inside k q (tuple t)
    top_inside = inside_same k q v.some h.same top_row.is_inside

    -- for any system with this Gram matrix, and the rest of any record
    module _ (p : ℕ) (coefs : List ℤ) (gram : Gram p q coefs g) (run : RunKind) (n n₂ d : ℕ) where
      abbrev m : System
      m = system_with k p q coefs limit

      abbrev now : State
      now = beside s run n n₂ d

      top_products : Products q g (top m now) (entry c (level s))
      top_products = level_products v.cached (omega (arith, v.high)) (λ j l. refl)

      top_towards : (j : ℕ) → j < q → entry c (level s) j ≡ towards m (top m now) j
      top_towards j l = product_towards gram top_products k limit j l

      solved_by : all_to q (λ j. is_zero (entry c (level s) j)) ≡ solves m (top m now)
      solved_by = vanish_solves gram top_products k limit

      enlisting : n ≢ step_limit → (b full : Bool) → to_second k (tuple t) ≡ b → full_in b (row_width k q) s ≡ full
          → all_to q (λ j. is_zero (entry c (level s) j)) ≡ true
          → Steps m now (list_answer b full) s.stack (lists_after b full (row_width k q) s (row_of k (top m now))).list
          (lists_after b full (row_width k q) s (row_of k (top m now))).second
      enlisting early b true e f y =
          step_full m now early (sym solved_by ∙ y)
          (ap (λ x. full_in x (row_width k q) now) (sym (to_second_same k v.some h.same) ∙ e) ∙ full_beside b (row_width k q) s run n n₂ d ∙ f)
      enlisting early false false e f y = step_listed m now early (sym solved_by ∙ y) (sym (to_second_same k v.some h.same) ∙ e) f refl
      enlisting early true false e f y = step_listed₂ m now early (sym solved_by ∙ y) (sym (to_second_same k v.some h.same) ∙ e) f refl

    -- the top is a solution
    pub taken_solution : all_to q (λ j. is_zero (entry c (level s) j)) ≡ true → {r : Result Stepped Refusal} {list second : List ℕ}
        → Enlisted k q s (tuple t) list second r
        → Taken k limit q g s r s.stack list second c sums
    taken_solution y {r} {list} {second} e =
        record {
          cached = rw e.answers (cached_by (to_second k (tuple t)) (full_for k q s (tuple t)));
          summed = rw e.answers (summed_by (to_second k (tuple t)) (full_for k q s (tuple t)));
          steps = λ p coefs gram run n n₂ d early.
              let b = to_second k (tuple t) in
              let full = full_for k q s (tuple t) in
              rw (e.answers, e.first, e.other, after_same₁ b full, after_same₂ b full) (enlisting p coefs gram run n n₂ d early b full refl refl y);
        }
      where
        cached_by : (b full : Bool) → Combined q g s.stack (height_by (list_answer b full) s) c
        cached_by b true = v.cached
        cached_by false false = combined_less v.cached (omega (arith, v.high))
        cached_by true false = combined_less v.cached (omega (arith, v.high))

        summed_by : (b full : Bool) → Totals q s.stack (height_by (list_answer b full) s) sums
        summed_by b true = v.summed
        summed_by false false = totals_less v.summed (omega (arith, v.high))
        summed_by true false = totals_less v.summed (omega (arith, v.high))

        shown : ℕ → ℕ
        shown = at s.stack (q + 1) (level s)

        after_same₁ : (b full : Bool) → (lists_after b full (row_width k q) s (row_of k (tuple t))).list
            ≡ (lists_after b full (row_width k q) s (row_of k shown)).list
        after_same₁ b true = refl
        after_same₁ false false = write_same (row_width k q) s.list (s.run.found * row_width k q) (row_agrees k q h.same)
        after_same₁ true false = refl

        after_same₂ : (b full : Bool)
            → (lists_after b full (row_width k q) s (row_of k (tuple t))).second ≡ (lists_after b full (row_width k q) s (row_of k shown)).second
        after_same₂ b true = refl
        after_same₂ false false = refl
        after_same₂ true false = write_same (row_width k q) s.second (s.run.found2 * row_width k q) (row_agrees k q h.same)

    -- the top is none; `made` are the unknowns that make a child
    module _ (no : all_to q (λ j. is_zero (entry c (level s) j)) ≡ false) {marks : ℕ} (row : marks ≡ get_or s.stack (level s * (q + 1) + q) 0) {candidates : ℕ}
        (are : Marked q (λ j. lt_z (entry c (level s) j) (pos 0) && not (frozen marks j)) candidates) {made : ℕ}
        (e : made ≡ marks_to q (child_for k q s (tuple t) candidates)) where
      pub made_below : made < 2 ^ q
      made_below = rw e (marks_below q _)

      abbrev child : ℕ → Bool
      child = child_for k q s (tuple t) candidates

      child_is : (p : ℕ) (coefs : List ℤ) → Gram p q coefs g → (run : RunKind) (n n₂ d : ℕ) → (j : ℕ) → j < q
          → child j ≡ makes (system_with k p q coefs limit) (beside s run n n₂ d) j
      child_is p coefs gram run n n₂ d j l =
          sym (child_beside k q s (tuple t) candidates j run n n₂ d)
          ∙ child_makes k p q coefs limit (beside s run n n₂ d) (tuple t) candidates j v.some h.same
          (are.at j l ∙ rw (row, top_towards p coefs gram run n n₂ d j l))

      made_is : (p : ℕ) (coefs : List ℤ) → Gram p q coefs g → (run : RunKind) (n n₂ d : ℕ) → (j : ℕ) → j < q
          → frozen made j ≡ makes (system_with k p q coefs limit) (beside s run n n₂ d) j
      made_is p coefs gram run n n₂ d j l = rw e (marks_frozen q child j l) ∙ child_is p coefs gram run n n₂ d j l

      -- the parent's marks are as many as rows below it, and none of the children's, so the children have their rows
      not_frozen : (j : ℕ) → j < q → T (child j) → ¬ (T (frozen marks j))
      not_frozen j l y z = child_free k q s (tuple t) candidates j (lt_z (entry c (level s) j) (pos 0)) marks (are.at j l) y z

      pub made_few : level s + count_to q (frozen made) ≤ q
      made_few =
          let marked : count_to q (frozen marks) ≡ level s = rw row top_row.marked in
          let same : count_to q (frozen made) ≡ count_to q child = rw e (marks_counted q child) in
          omega (arith, marked, same, marks_few marks child q not_frozen)

      pub top_parent : Parent q g s.stack c sums (level s) (at s.stack (q + 1) (level s)) marks
      top_parent =
          let up : level s + 1 ≡ s.run.height = omega (arith, v.high) in
          record {
            few = v.few;
            long = v.long;
            small = record { at_most = λ j l. omega (arith, top_row.small j l, v.bounded) };
            fitting = rw row top_row.fitting;
            gram = v.gram;
            row = record { tuple = λ j l. refl; marks_are = sym row };
            cached = rw up v.cached;
            summed = rw up v.summed;
          }

      large_by : (p : ℕ) (coefs : List ℤ) → Gram p q coefs g → (run : RunKind) (n n₂ d : ℕ)
          → any_to q (λ j. child j && eqb (tuple t j) limit) ≡ too_large (system_with k p q coefs limit) (beside s run n n₂ d)
      large_by p coefs gram run n n₂ d = too_large_by k p q coefs limit (beside s run n n₂ d) h.same (child_is p coefs gram run n n₂ d)

      pub taken_large : any_to q (λ j. child j && eqb (tuple t j) limit) ≡ true
          → Taken k limit q g s (Err ComponentLimit) s.stack s.list s.second c sums
      taken_large l =
          record {
            cached = v.cached;
            summed = v.summed;
            steps =
                λ p coefs gram run n n₂ d early. step_large (system_with k p q coefs limit) (beside s run n n₂ d) early
                (sym (solved_by p coefs gram run n n₂ d) ∙ no) (sym (large_by p coefs gram run n n₂ d) ∙ l);
          }

      pub taken_grown : any_to q (λ j. child j && eqb (tuple t j) limit) ≡ false → {r : ℕ} {after : List ℕ} {c' : List ℤ} {sums' : List ℕ}
          → r ≡ level s + count_to q (frozen made) → after ≡ write_children q q s.stack (level s) (at s.stack (q + 1) (level s)) marks (frozen made)
          → Combined q g after r c' → Totals q after r sums' → Taken k limit q g s (Ok (Grown r)) after s.list s.second c' sums'
      taken_grown none {r} {after} rise grow cached summed =
          record {
            cached = cached;
            summed = summed;
            steps = λ p coefs gram run n n₂ d early.
                let now = beside s run n n₂ d in
                let f = made_is p coefs gram run n n₂ d in
                step_grown (system_with k p q coefs limit) now early (sym (solved_by p coefs gram run n n₂ d) ∙ no)
                (sym (large_by p coefs gram run n n₂ d) ∙ none)
                (grow ∙ ap (λ x. write_children q q s.stack (level s) (at s.stack (q + 1) (level s)) x (frozen made)) row
                ∙ grown_by k p q coefs limit now (λ j l. refl) f)
                (rise ∙ ap (λ x. level s + x) (count_by k p q coefs limit now f));
          }

  -- no candidates, and so no children: the row is taken off, whatever tuple it has
  pub taken_none : all_to q (λ j. is_zero (entry c (level s) j)) ≡ false → {marks : ℕ} → marks ≡ get_or s.stack (level s * (q + 1) + q) 0
      → Marked q (λ j. lt_z (entry c (level s) j) (pos 0) && not (frozen marks j)) 0
      → Taken k limit q g s (Ok (Grown (level s))) s.stack s.list s.second c sums
  taken_none fails {marks} row are =
      let base : ℕ = level s * (q + 1) in
      let t : List ℕ = drop base s.stack in
      let held : Holds q t s.stack base = record { same = λ j l. get_or-drop base s.stack j 0 } in
      let none : (j : ℕ) → child_for k q s (tuple t) 0 j ≡ false = λ j. closed_child k q s (tuple t) 0 j (is_false (frozen 0 j) (frozen_none j)) in
      let pushed = none_pushed q s.stack (level s) (at s.stack (q + 1) (level s)) marks (frozen 0) (λ j _ _. is_false (frozen 0 j) (frozen_none j)) in
      taken_grown held fails row are (sym (marks_over (child_for k q s (tuple t) 0) 0 q (omega arith) (λ j _ _. none j) ∙ marks_zero _))
      (any_over _ 0 q (omega arith) (λ j _ _. rw (none j)) (any_zero _))
      pushed.0 pushed.1 (combined_less v.cached (omega (arith, v.high))) (totals_less v.summed (omega (arith, v.high)))
