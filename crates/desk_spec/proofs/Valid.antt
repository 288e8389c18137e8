-- Theorems about what specs/Valid.antt defines. Assumes nothing.
use Rattle.std.specs.Prelude.{◌≡◌, refl, Bool, cond, ℕ, suc, ◌+◌, ◌*◌, ◌-◌, ◌^◌, ◌%◌, ◌≤◌, ◌<◌, T, nat_abs, pos, length, get_or}
use Rattle.std.proofs.Common.{ap₂, inl, inr, le-div_iff_mul-le, mul-le-mul_right, arith}
use Rattle.std.proofs.Math.Bool.{true, false}
use Rattle.linear.proofs.Cases.{split}
use Rattle.linear.proofs.TestLaws.{T-dec, count_at, count_le}
use Rattle.linear.specs.Tests.{count_to}
use Rattle.linear.proofs.TupleLaws.{total_most}
use Rattle.definitions.specs.Answers.{go}
use Rattle.definitions.specs.Refusals.{step_limit}
use Rattle.definitions.specs.System.{coef_limit, image_of, most_component, most_equations, most_unknowns, solves}
use Rattle.definitions.specs.Tables.{State, at, capacity, frozen}
use Rattle.laws.specs.CheckLaws.{AllSilent}
use Rattle.laws.proofs.MarkLaws.{marks_count, marks_few, marks_fit, ones_count, ones_fit}
use Rattle.laws.proofs.RefusalLaws.{at_most, equal}
use Rattle.laws.proofs.SystemLaws.{fails_fails, solves_solution}
use Rattle.laws.proofs.TableLaws.{row_before, write_length}
use Rattle.laws.proofs.Again.{sweep_again, table_swept}
use Rattle.laws.proofs.Pack.{pack_beyond, pack_length}
use Rattle.desk_spec.specs.Records.{is_desk, lent_with, recounted}
use Rattle.desk_spec.proofs.Records.{desk_is, is_desk_lem}
use Rattle.desk_spec.specs.Desks.{Desk, always, deepest_limit, desk_deeper, desk_grown, desk_level, desk_listed, desk_makes, desk_marks, desk_resume_checks}
use Rattle.desk_spec.specs.Desks.{desk_search_checks, desk_start, desk_start_checks, desk_step, desk_top, desk_top_marks, desk_tuple, freed, generator}
use Rattle.desk_spec.specs.Desks.{generator_count, image_limit, is_done, is_full, most_generators, plus, second_group, settled, stays, swept}
use Rattle.desk_spec.proofs.Rows.{child_is, marks_kept, raises_free, rows_kept, start_row}
use Rattle.desk_spec.specs.Rules.{DeskInOrder, DeskOutOfOrder, DeskRowInOrder, beyond, deep, desk_resume_rules, high, large, late, many, miscounted}
use Rattle.desk_spec.specs.Rules.{other_kind, row}
use Rattle.desk_spec.proofs.Rules.{not_order, resume_renders, search_renders, start_renders}
use Rattle.desk_spec.specs.Valid.{DeskGoing, DeskShaped, DeskValid, SweepLeaves, SweepOf, stack'}

module _ (d : Desk) (s : State) where
  pub start_shaped : desk_start_checks d s ≡ go → DeskShaped d (length s.stack)
  start_shaped e =
      let (a1, (a2, (a3, (a4, (a6, (a7, (a25, u))))))) = (start_renders d s).goes e in
      record {
        p_some = at_most 1 d.p (λ l. a1 (inl l));
        p_few = at_most d.p most_equations (λ l. a1 (inr l));
        q_some = at_most 1 d.q (λ l. a2 (inl l));
        q_few = at_most d.q most_unknowns (λ l. a2 (inr l));
        coefs = equal (length d.coefs) (d.p * d.q) (λ ne. a3 (inl ne));
        whole = equal (length d.generators % d.q) 0 (λ ne. a3 (inr ne));
        stack = at_most (generator_count d * (d.q + 2)) (length s.stack) a4;
        handed = λ i l. at_most (get_or d.generators i 0) most_component (λ h. a6 (i, l, h));
        range = λ i l. at_most (nat_abs (get_or d.coefs i (pos 0))) coef_limit (a7 i l);
        few = at_most (generator_count d) most_generators (λ l. a25 (inl l));
        images = λ k i kn ip. at_most (nat_abs (image_of (second_group d) (generator d k) i)) image_limit (λ h. a25 (inr (k, kn, i, ip, h)));
      }

  -- a continuing call that goes on would be let start
  resume_start : AllSilent (desk_resume_rules d s) → desk_start_checks d s ≡ go
  resume_start (a1, (a2, (a3, (a4, (a6, rest))))) = (start_renders d s).silent (a1, (a2, (a3, (a4, (λ b. a6 (inl b), rest)))))

  -- what is not out of order is in order
  ordered_by : ¬ (DeskOutOfOrder d s) → DeskInOrder d s
  ordered_by n =
      record {
        own = elim (T-dec (is_desk s.run)) [ inl y ↦ desk_is s.run y | inr y ↦ absurd (n (other_kind (λ e. y (is_desk_lem s.run e)))) ];
        height = at_most s.run.height (generator_count d) (λ l. n (high l));
        found = at_most s.run.found (capacity d.q s.list) (λ l. n (many l));
        early = at_most s.run.steps step_limit (λ l. n (late l));
        shallow = at_most s.run.deepest deepest_limit (λ l. n (deep l));
        rows = λ k l. record {
          small = λ j jq. at_most (desk_tuple d.q s.stack k j) most_component (λ h. n (row k l (large j jq h)));
          fitting = elim (split (desk_marks d.q s.stack k) (2 ^ generator_count d)) [ inl y ↦ y | inr y ↦ absurd (n (row k l (beyond y))) ];
          marked = equal (count_to (generator_count d) (frozen (desk_marks d.q s.stack k))) k (λ ne. n (row k l (miscounted ne)));
        };
      }

  pub resume_valid : desk_resume_checks d s ≡ go → DeskValid d s
  resume_valid e =
      let q = (resume_renders d s).goes e in
      let (a1, (a2, (a3, (a4, (a6, rest))))) = q in
      record { shaped = start_shaped (resume_start q); ordered = ordered_by (λ b. a6 (inr b)) }

  shape_silent : DeskShaped d (length s.stack) → ¬ (DeskOutOfOrder d s) → AllSilent (desk_resume_rules d s)
  shape_silent g n = (
    λ o. elim o [ inl l ↦ omega (arith, g.p_some) | inr l ↦ omega (arith, g.p_few) ],
    (
      λ o. elim o [ inl l ↦ omega (arith, g.q_some) | inr l ↦ omega (arith, g.q_few) ],
      (
        λ o. elim o [ inl ne ↦ ne g.coefs | inr ne ↦ ne g.whole ],
        (
          λ l. omega (arith, g.stack),
          (
            λ b. elim b [ inl (i, l, h) ↦ omega (arith, g.handed i l) | inr x ↦ n x ],
            (
              λ i l h. omega (arith, g.range i l),
              (λ b. elim b [ inl l ↦ omega (arith, g.few) | inr (k, kn, i, ip, h) ↦ omega (arith, g.images k i kn ip) ], tt),
            ),
          ),
        ),
      ),
    ),
  )

  pub valid_resume : DeskValid d s → desk_resume_checks d s ≡ go
  valid_resume v = (resume_renders d s).silent (shape_silent v.shaped (λ b. not_order d s b v.ordered))

pub search_going : (d : Desk) (s : State) → DeskInOrder d s → 0 < s.run.height → desk_search_checks d s ≡ go → DeskGoing d s
search_going d s o h e =
    let (last, (full, (over, u))) = (search_renders d s).goes e in
    record {
      high = h;
      early = omega (arith, o.early, last);
      roomy = λ y. at_most (suc (freed d s).run.found) (capacity d.q s.list) (λ l. full (solves_solution (second_group d) (desk_top d s) y, omega arith));
      small = λ n j jn mj i iq. at_most (plus (desk_top d s) (generator d j) i) most_component
          (λ l. over (fails_fails (second_group d) (desk_top d s) n, (j, jn, mj, i, iq, l)));
    }

pub swept_of : (q : ℕ) (s : State) → SweepOf s (swept q s)
unfolding swept
swept_of q s =
    record {
      stack = refl;
      kind = λ e. e;
      height = refl;
      steps = refl;
      deepest = refl;
      length_same = pack_length q s.list 0 _ _ s.run.found;
      fewer = count_le (stays q s) s.run.found;
    }

none_of : (s : State) → SweepOf s s
none_of s = record { stack = refl; kind = λ e. e; height = refl; steps = refl; deepest = refl; length_same = refl; fewer = omega arith }

-- what a sweep keeps, it keeps where it may be due
module _ (P : State → Type 0) (d : Desk) (s : State) (after : P (swept d.q s)) (now : P s) where
  maybe : (b : Bool) → P (cond b (swept d.q s) s)
  maybe true = after
  maybe false = now

  pub freed_has : P (freed d s)
  unfolding freed
  freed_has = maybe (is_full d s)

  pub settled_has : P (settled d s)
  unfolding settled
  settled_has = maybe (is_done s)

pub freed_of : (d : Desk) (s : State) → SweepOf s (freed d s)
freed_of d s = freed_has (SweepOf s) d s (swept_of d.q s) (none_of s)

pub settled_of : (d : Desk) (s : State) → SweepOf s (settled d s)
settled_of d s = settled_has (SweepOf s) d s (swept_of d.q s) (none_of s)

pub same_top : (d : Desk) {s t : State} → SweepOf s t → desk_top d t ≡ desk_top d s
same_top d o = ap₂ (λ stack h. at stack (d.q + 2) (h - 1)) o.stack o.height

pub sweep_valid : {d : Desk} {s t : State} → SweepOf s t → DeskValid d s → DeskValid d t
sweep_valid {d} {s} {t} o v =
    record {
      shaped = rw o.stack v.shaped;
      ordered =
          record {
            own = o.kind v.ordered.own;
            height = rw o.height v.ordered.height;
            found = rw o.length_same (omega (arith, o.fewer, v.ordered.found));
            early = rw o.steps v.ordered.early;
            shallow = rw o.deepest v.ordered.shallow;
            rows = λ k l. rw o.stack (v.ordered.rows k (rw o.height at l));
          };
    }

-- ---- the start

module _ (d : Desk) (s : State) (g : DeskShaped d (length s.stack)) where
  pub generator_small : (k : ℕ) → k < generator_count d → (j : ℕ) → j < d.q → generator d k j ≤ most_component
  generator_small k kn j jq =
      let long = (le-div_iff_mul-le {k = d.q} {x = generator_count d} {y = length d.generators} g.q_some).0 (omega arith) in
      g.handed (k * d.q + j) (omega (arith, row_before d.q (generator_count d) k 0 j kn jq))

  pub start_valid : DeskValid d (desk_start d s)
  unfolding desk_start
  start_valid =
      record {
        shaped = rw (pack_length (d.q + 2) s.stack 0 always _ (generator_count d)) g;
        ordered =
            record {
              own = refl;
              height = omega arith;
              found = omega arith;
              early = omega arith;
              shallow = omega arith;
              rows = λ k kn.
                  let r = start_row d s.stack g.stack k kn in
                  record {
                    small = λ j jq. rw (r.tuple j jq) (generator_small k kn j jq);
                    fitting = rw r.marks_are (ones_fit k (generator_count d) kn);
                    marked = rw r.marks_are (ones_count k (generator_count d) (omega arith));
                  };
            };
      }

-- ---- a step

module _ (d : Desk) (s : State) (v : DeskValid d s) (h : 0 < s.run.height) where
  top_row : DeskRowInOrder d s.stack (desk_level s)
  top_row = v.ordered.rows (desk_level s) (omega arith)

  pub free : (i : ℕ) → i < generator_count d → T (desk_makes d s i) → ¬ (T (frozen (desk_top_marks d s) i))
  free i il mi = raises_free d s.list s.run.found (desk_top d s) (desk_top_marks d s) i mi

  -- "no step needs a row beyond the last one"
  pub children_few : desk_level s + count_to (generator_count d) (desk_makes d s) ≤ generator_count d
  children_few = omega (arith, top_row.marked, marks_few (desk_top_marks d s) (desk_makes d s) (generator_count d) free)

  -- the greatest sum: at most 16 components of at most 1,000,000
  deeper_few : desk_deeper d s ≤ deepest_limit
  deeper_few =
      let sum = total_most (desk_top d s) d.q most_component top_row.small in
      let most = mul-le-mul_right most_component v.shaped.q_few in
      omega (arith, v.ordered.shallow, sum, most)

  pub listed_valid : s.run.steps < step_limit → s.run.found < capacity d.q s.list → DeskValid d (desk_listed d s)
  unfolding desk_listed
  listed_valid early room =
      record {
        shaped = v.shaped;
        ordered =
            record {
              own = v.ordered.own;
              height = omega (arith, v.ordered.height);
              found = rw (write_length (desk_top d s) s.list (s.run.found * d.q) d.q) (omega arith);
              early = omega arith;
              shallow = deeper_few;
              rows = λ k l. v.ordered.rows k (omega arith);
            };
      }

  module _ (small : (j : ℕ) → j < generator_count d → T (desk_makes d s j) → (i : ℕ) → i < d.q → plus (desk_top d s) (generator d j) i ≤ most_component) where
    old_row : (k : ℕ) → k < desk_level s → DeskRowInOrder d (stack' d s v h) k
    unfolding desk_grown
    old_row k l =
        let r = v.ordered.rows k (omega arith) in
        let marks = marks_kept d s.stack (desk_level s) (desk_top d s) (desk_top_marks d s) (desk_makes d s) k l in
        record {
          small = λ j jq. rw (rows_kept d s.stack (desk_level s) (desk_top d s) (desk_top_marks d s) (desk_makes d s) k j l (omega arith)) (r.small j jq);
          fitting = rw marks r.fitting;
          marked = rw marks r.marked;
        }

    new_row : (j : ℕ) → j < generator_count d → T (desk_makes d s j) → DeskRowInOrder d (stack' d s v h) (desk_level s + count_to j (desk_makes d s))
    unfolding desk_grown
    new_row j jn mj =
        let c = child_is d s.stack (desk_level s) (desk_top d s) (desk_top_marks d s) (desk_makes d s) v.shaped.stack children_few j jn mj in
        record {
          small = λ i iq. rw (c.tuple i iq) (small j jn mj i iq);
          fitting = rw c.marks_are (marks_fit (desk_top_marks d s) (desk_makes d s) (generator_count d) free j (omega arith) top_row.fitting);
          marked = rw c.marks_are (omega (arith, marks_count (desk_top_marks d s) (desk_makes d s) (generator_count d) free j (omega arith), top_row.marked));
        }

    grown_rows : (k : ℕ) → k < desk_level s + count_to (generator_count d) (desk_makes d s) → DeskRowInOrder d (stack' d s v h) k
    grown_rows k kh =
        elim (split k (desk_level s)) [
          | inl l ↦ old_row k l
          | inr l ↦
              let (j, jn, mj, e) = count_at (desk_makes d s) (generator_count d) (k - desk_level s) (omega arith) in
              let place : desk_level s + count_to j (desk_makes d s) ≡ k = omega arith in
              rw place at (new_row j jn mj)
        ]

    pub grown_valid : s.run.steps < step_limit → DeskValid d (desk_grown d s)
    unfolding desk_grown
    grown_valid early =
        record {
          shaped = rw (pack_length (d.q + 2) s.stack (desk_level s) (desk_makes d s) _ (generator_count d)) v.shaped;
          ordered =
              record {
                own = v.ordered.own;
                height = children_few;
                found = v.ordered.found;
                early = omega arith;
                shallow = deeper_few;
                rows = grown_rows;
              };
        }

-- the two ways of a step
module _ (P : State → Type 0) (d : Desk) (s : State) where
  pub step_has : (T (solves (second_group d) (desk_top d s)) → P (desk_listed d (freed d s)))
      → (¬ (T (solves (second_group d) (desk_top d s))) → P (desk_grown d s))
      → P (desk_step d s)
  unfolding desk_step
  step_has = go' (solves (second_group d) (desk_top d s))
    where
      go' : (b : Bool) → (T b → P (desk_listed d (freed d s))) → (¬ (T b) → P (desk_grown d s)) → P (cond b (desk_listed d (freed d s)) (desk_grown d s))
      go' true y n = y tt
      go' false y n = n (λ h. h)

pub freed_valid : (d : Desk) (s : State) → DeskValid d s → DeskValid d (freed d s)
freed_valid d s v = sweep_valid (freed_of d s) v

pub settled_valid : (d : Desk) (s : State) → DeskValid d s → DeskValid d (settled d s)
settled_valid d s v = sweep_valid (settled_of d s) v

-- after the sweep of a full list there is room for the solution that is due
pub freed_room : (d : Desk) (s : State) → DeskGoing d s → T (solves (second_group d) (desk_top d s))
    → (freed d s).run.found < capacity d.q (freed d s).list
freed_room d s g y = rw (freed_of d s).length_same (g.roomy y)

pub step_valid : (d : Desk) (s : State) → DeskValid d s → DeskGoing d s → DeskValid d (desk_step d s)
step_valid d s v g =
    let o = freed_of d s in
    step_has (DeskValid d) d s
    (λ y. listed_valid d (freed d s) (freed_valid d s v) (rw o.height g.high) (rw o.steps g.early) (freed_room d s g y))
    (λ n. grown_valid d s v g.high (g.small n) g.early)

-- at height 0 the list is swept
pub settled_done : (d : Desk) (s : State) → s.run.height ≡ 0 → settled d s ≡ swept d.q s
unfolding settled
settled_done d s e = rw e refl

pub sweep_leaves : (q : ℕ) (s : State) → SweepLeaves q s (swept q s)
unfolding swept
sweep_leaves q s =
    record { rows = table_swept q s.run.found s.list; past = λ e l. pack_beyond q s.list 0 _ _ s.run.found e (omega arith) }

-- ---- what is done ahead of a step is done once

again_at : (b : Bool) (q : ℕ) (s : State) → cond b (swept q (cond b (swept q s) s)) (cond b (swept q s) s) ≡ cond b (swept q s) s
unfolding swept
again_at false q s = refl
again_at true q s =
    let e = sweep_again q s.run.found s.list in
    ap₂ (λ list found. lent_with s s.stack list (recounted s.run found)) e.0 e.1

again_height : (d : Desk) (s : State) → (settled d s).run.height ≡ s.run.height → settled d (settled d s) ≡ settled d s
unfolding settled
again_height d s e = rw e (again_at (is_done s) d.q s)

pub settled_again : (d : Desk) (s : State) → settled d (settled d s) ≡ settled d s
settled_again d s = again_height d s (settled_of d s).height
