-- Theorems about what specs/Untouched.antt defines. Assumes nothing.
use Rattle.std.proofs.Common.{◌∙◌, inl, inr, arith}
use Rattle.std.specs.Prelude.{◌≡◌, Bool, List, ◌*◌, ◌+◌, ◌<◌, ◌≤◌, suc, zero, ℕ, T}
use Rattle.std.proofs.Math.Path.{ap, refl}
use Rattle.std.proofs.Math.Bool.{false, true}
use Rattle.std.proofs.Math.Nat.{mul-le-mul_right}
use Rattle.std.proofs.Math.ListN.{get_or, length}
use Rattle.definitions.specs.Answers.{go}
use Rattle.definitions.specs.Calls.{changed, machine, machine_from, resume, resume_from, resume_steps, settle_from, start, start_from, step_from}
use Rattle.definitions.specs.Input.{Input, above_system, bound_of, map_of, system_of}
use Rattle.definitions.specs.Machine.{after, checked}
use Rattle.definitions.specs.Refusals.{lower_checks, resume_checks, resume_from_checks, start_checks}
use Rattle.definitions.specs.Step.{deeper, enlist, enlist_in, grown, listed, pick, row_of, row_width, step, to_second, top, width}
use Rattle.definitions.specs.System.{Kind, System, solves}
use Rattle.definitions.specs.Tables.{Record, RunKind, State, by_walk, capped_run, desk_by_desk, lower_above, lower_plain, lower_start, lowered, plain_part}
use Rattle.definitions.specs.Tables.{plain_run, units_start, units_to, whole_of}
use Rattle.laws.proofs.CheckLaws.{check_cases}
use Rattle.laws.proofs.MachineLaws.{call_refused}
use Rattle.laws.specs.LowerLaws.{GoingFrom, InOrderBy}
use Rattle.laws.proofs.LowerLaws.{above_valid, plain_valid, resume_from_valid, search_going_from, settled_valid}
use Rattle.laws.proofs.LowerLaws.{start_from_valid, step_from_valid}
use Rattle.laws.specs.RefusalLaws.{Going, Room, Valid}
use Rattle.laws.proofs.RefusalLaws.{resume_valid, search_going, start_shaped}
use Rattle.laws.proofs.StepLaws.{children_length, children_outside}
use Rattle.laws.proofs.TableLaws.{row_length, row_outside, units_length, units_outside, write_outside}
use Rattle.laws.proofs.ValidLaws.{children_few, enlists, step_valid, units_inside, units_valid}
use Rattle.theorems.specs.Maps.{Map}
use Rattle.theorems.specs.Series.{Call, call_checks, continuing, continuing_from, perform, starting, starting_from}
use Rattle.theorems.proofs.Series.{refused_outcome}
use Rattle.theorems.specs.WholeSteps.{Goes, after_keeps, call_going, call_keeps}
use Rattle.theorems.proofs.WholeSteps.{after_next}
use Rattle.theorems.specs.Untouched.{Enlisting, Leaves, Marked, Standing, Untouched, i, input_for, n}

pub untouched : (q w : ℕ) (s : State) → Untouched q w s s
untouched q w s = record { stack_length = refl; beyond = λ e l. refl; list_length = refl; past = λ e l. refl; second_length = refl; past₂ = λ e l. refl }

enlisting_in : (b : Bool) (w : ℕ) (s : State) (y : ℕ → ℕ) (deepest : ℕ) → Enlisting w s (enlist_in b w s y deepest)
enlisting_in false w s y deepest =
    record {
      grows = omega arith;
      past = λ e l. write_outside y s.list (s.run.found * w) w e (inr (omega arith));
      grows₂ = omega arith;
      past₂ = λ e l. refl;
    }
enlisting_in true w s y deepest =
    record {
      grows = omega arith;
      past = λ e l. refl;
      grows₂ = omega arith;
      past₂ = λ e l. write_outside y s.second (s.run.found2 * w) w e (inr (omega arith));
    }

enlisting : (k : Kind) (q : ℕ) (s : State) (x : ℕ → ℕ) → Enlisting (row_width k q) s (enlist k q s x)
enlisting k q s x = enlisting_in (to_second k x) (row_width k q) s (row_of k x) (deeper q s x)

-- "Table rows above the height keep what they last held.": every entry from there on
pub above_kept : (m : System) (s : State) → Valid m s → Going m s → (e : ℕ) → (step m s).run.height * (m.q + 1) ≤ e
    → get_or (step m s).stack e 0 ≡ get_or s.stack e 0
unfolding step listed grown
above_kept m s v g e = go (solves m (top m s)) g.roomy
  where
    go : (b : Bool) → (T b → Room m.kind m.q s (top m s)) → (pick b (listed m s) (grown m s)).run.height * (m.q + 1) ≤ e
        → get_or (pick b (listed m s) (grown m s)).stack e 0 ≡ get_or s.stack e 0
    go true room l = ap (λ stack. get_or stack e 0) (enlists m.kind m.q s (top m s) (room tt)).stack
    go false room l = children_outside m s m.q e l

module _ (m : System) (s t : State) (v : Valid m t) (g : Going m t) (u : Untouched m.q (width m) s t) where
  listed_untouched : Room m.kind m.q t (top m t) → Untouched m.q (width m) s (listed m t)
  unfolding listed
  listed_untouched room =
      let e = enlists m.kind m.q t (top m t) room in
      let l = enlisting m.kind m.q t (top m t) in
      record {
        stack_length = ap length e.stack ∙ u.stack_length;
        beyond = λ p h. ap (λ stack. get_or stack p 0) e.stack ∙ u.beyond p h;
        list_length = e.room ∙ u.list_length;
        past = λ p h. l.past p h ∙ u.past p (omega (arith, mul-le-mul_right (width m) l.grows));
        second_length = e.room₂ ∙ u.second_length;
        past₂ = λ p h. l.past₂ p h ∙ u.past₂ p (omega (arith, mul-le-mul_right (width m) l.grows₂));
      }

  grown_untouched : Untouched m.q (width m) s (grown m t)
  unfolding grown
  grown_untouched =
      record {
        stack_length = children_length m t m.q ∙ u.stack_length;
        beyond = λ e h. children_outside m t m.q e (omega (arith, mul-le-mul_right (m.q + 1) (children_few m t v g.high))) ∙ u.beyond e h;
        list_length = u.list_length;
        past = u.past;
        second_length = u.second_length;
        past₂ = u.past₂;
      }

  step_untouched : Untouched m.q (width m) s (step m t)
  unfolding step
  step_untouched = go (solves m (top m t)) g.roomy
    where
      go : (b : Bool) → (T b → Room m.kind m.q t (top m t)) → Untouched m.q (width m) s (pick b (listed m t) (grown m t))
      go true room = listed_untouched (room tt)
      go false room = grown_untouched

units_untouched : (q w : ℕ) (s : State) (run : Record)
    → Untouched q w s (record { stack = units_to q q s.stack; list = s.list; second = s.second; run = run })
units_untouched q w s run =
    record {
      stack_length = units_length q s.stack q;
      beyond = units_outside q s.stack q;
      list_length = refl;
      past = λ e l. refl;
      second_length = refl;
      past₂ = λ e l. refl;
    }

module _ (i : Input) (s : State) where
  units_leaves : start_checks i s ≡ go → Leaves (n i s) (width (system_of i)) s (units_start (system_of i) s)
  unfolding units_start
  units_leaves e =
      record {
        marked = λ k l. ((units_valid (system_of i) s (start_shaped i s e) (units_inside i.extra i)).ordered.rows k l).marked;
        untouched = units_untouched (n i s) (width (system_of i)) s _;
      }

  resume_leaves : (budget : ℕ) → resume_checks i s ≡ go → Leaves (n i s) (width (system_of i)) s (resume budget i s).state
  resume_leaves budget e =
      let (v, u) = call_keeps (machine i) (λ t. Valid (system_of i) t × Untouched (n i s) (width (system_of i)) s t) (λ t l. l) kept budget s
      (resume_valid i s e, untouched (n i s) (width (system_of i)) s) in
      record { marked = λ k l. (v.ordered.rows k l).marked; untouched = u }
    where
      kept : (t : State) → Valid (system_of i) t × Untouched (n i s) (width (system_of i)) s t → Goes (machine i) t
          → Valid (system_of i) (step (system_of i) t) × Untouched (n i s) (width (system_of i)) s (step (system_of i) t)
      kept t (v, u) (h, f) =
          let g = search_going (system_of i) t v.ordered h f in
          (step_valid (system_of i) t v h g, step_untouched (system_of i) s t v g u)

-- ---- runs from a lower bound

-- the plain walk's list is the second one
plain_untouched : {q w : ℕ} {s t : State} → Untouched q w s t → Untouched q w (plain_part s) (plain_part t)
plain_untouched u =
    record {
      stack_length = u.stack_length;
      beyond = u.beyond;
      list_length = u.second_length;
      past = u.past₂;
      second_length = u.list_length;
      past₂ = u.past;
    }

whole_untouched : {q w d : ℕ} {s t : State} → Untouched q w (plain_part s) t → Untouched q w s (whole_of d t)
whole_untouched u =
    record {
      stack_length = u.stack_length;
      beyond = u.beyond;
      list_length = u.second_length;
      past = u.past₂;
      second_length = u.list_length;
      past₂ = u.past;
    }

-- its rows carry their marks, in either walk
marked_by : (lower : List ℕ) (i : Input) (t : State) (r : RunKind) → InOrderBy r lower i t → Marked i.q t
marked_by lower i t plain_run o = absurd o
marked_by lower i t capped_run o = absurd o
marked_by lower i t lower_plain (o, f, l) = λ k h. (o.rows k h).marked
marked_by lower i t lower_above (o, l) = λ k h. (o.rows k h).marked
marked_by lower i t desk_by_desk o = absurd o

module _ (lower : List ℕ) (m : Map) (s : State) where
  settled_untouched : (t : State) → (Standing lower m s) t → Untouched (i lower m s).q (i lower m s).q s (settle_from lower (i lower m s) t)
  unfolding settle_from lowered
  settled_untouched t (v, u) = go t.run.kind t.run.height
    where
      lowers : Untouched (i lower m s).q (i lower m s).q s (lowered (bound_of lower) (i lower m s).q t)
      lowers =
          record {
            stack_length = row_length (i lower m s).q t.stack 0 (bound_of lower) 0 ∙ u.stack_length;
            beyond = λ e h.
                row_outside true (i lower m s).q t.stack 0 (bound_of lower) 0 e (omega (arith, mul-le-mul_right ((i lower m s).q + 1) v.shaped.q_some))
                ∙ u.beyond e h;
            list_length = u.list_length;
            past = u.past;
            second_length = u.second_length;
            past₂ = u.past₂;
          }

      go : (r : RunKind) (h : ℕ) → Untouched (i lower m s).q (i lower m s).q s (changed r h lower (i lower m s) t)
      go plain_run h = u
      go capped_run h = u
      go lower_plain zero = lowers
      go lower_plain (suc h) = u
      go lower_above h = u
      go desk_by_desk h = u

  stepped_untouched : (t : State) → (Standing lower m s) t → GoingFrom lower (i lower m s) t
      → Untouched (i lower m s).q (i lower m s).q s (step_from lower (i lower m s) t)
  unfolding step_from
  stepped_untouched t (v, u) (p, a) = go t.run.kind refl v.ordered
    where
      go : (r : RunKind) → t.run.kind ≡ r → InOrderBy r lower (i lower m s) t
          → Untouched (i lower m s).q (i lower m s).q s
          (by_walk r (whole_of t.run.deepest (step (map_of (i lower m s)) (plain_part t))) (step (above_system lower (i lower m s)) t))
      go plain_run e o = absurd o
      go capped_run e o = absurd o
      go lower_plain e o =
          whole_untouched {s = s}
          (step_untouched (map_of (i lower m s)) (plain_part s) (plain_part t) (plain_valid lower (i lower m s) t e v) (p e)
          (plain_untouched {s = s} {t = t} u))
      go lower_above e o = step_untouched (above_system lower (i lower m s)) s t (above_valid lower (i lower m s) t e v) (a e) u
      go desk_by_desk e o = absurd o

  pub kept_standing : (t : State) → (Standing lower m s) t → Goes (machine_from lower (i lower m s)) t → (Standing lower m s) (step_from lower (i lower m s) t)
  kept_standing t (v, u) (h, f) =
      let g = search_going_from lower (i lower m s) t v h f in (step_from_valid lower (i lower m s) t v g, stepped_untouched t (v, u) g)

  start_from_leaves : lower_checks lower (i lower m s) s ≡ go → Leaves (i lower m s).q (i lower m s).q s (lower_start (map_of (i lower m s)) s)
  unfolding lower_start
  start_from_leaves e =
      record {
        marked = marked_by lower (i lower m s) (lower_start (map_of (i lower m s)) s) lower_plain (start_from_valid lower (i lower m s) s refl e).ordered;
        untouched = units_untouched (i lower m s).q (i lower m s).q s _;
      }

  resume_from_leaves : (budget : ℕ) → resume_from_checks lower (i lower m s) s ≡ go
      → Leaves (i lower m s).q (i lower m s).q s (resume_from budget lower (i lower m s) s).state
  resume_from_leaves budget e =
      let t : State = (resume_from budget lower (i lower m s) s).state in
      let (v, u) = call_keeps (machine_from lower (i lower m s)) (Standing lower m s)
      (λ t (v, u). (settled_valid lower (i lower m s) t v, settled_untouched t (v, u))) kept_standing budget s
      ((resume_from_valid lower (i lower m s) s refl e).1, untouched (i lower m s).q (i lower m s).q s) in
      record { marked = marked_by lower (i lower m s) t t.run.kind v.ordered; untouched = u }

pub call_leaves : (c : Call) (s : State) → call_checks c s ≡ go → Leaves (system_of (input_for c)).q (width (system_of (input_for c))) s (perform c s).state
unfolding start start_from checked
call_leaves (starting i) s e = rw e (units_leaves i s e)
call_leaves (starting_from lower m) s e = rw e (start_from_leaves lower m s e)
call_leaves (continuing budget i) s e = resume_leaves i s budget e
call_leaves (continuing_from budget lower m) s e = resume_from_leaves lower m s budget e

pub call_untouched : (c : Call) (s : State) → Untouched (system_of (input_for c)).q (width (system_of (input_for c))) s (perform c s).state
call_untouched c s =
    elim (check_cases (call_checks c s)) [
      | inl e ↦ (call_leaves c s e).untouched
      | inr (n, values, e) ↦ rw (refused_outcome c s n values e) (untouched (system_of (input_for c)).q (width (system_of (input_for c))) s)
    ]

pub call_marked : (c : Call) (s : State) → call_checks c s ≡ go → Marked (system_of (input_for c)).q (perform c s).state
call_marked c s e = (call_leaves c s e).marked

-- each step of a continuing call keeps what lies above the height that it leaves
pub steps_above : (budget : ℕ) (i : Input) (s : State) (n : ℕ) → n < resume_steps budget i s → (e : ℕ)
    → (after (n + 1) (machine i) s).run.height * ((system_of i).q + 1) ≤ e
    → get_or (after (n + 1) (machine i) s).stack e 0 ≡ get_or (after n (machine i) s).stack e 0
steps_above budget i s n l e h =
    elim (check_cases (resume_checks i s)) [
      | inl c ↦
          let t : State = after n (machine i) s in
          let v = after_keeps (machine i) (Valid (system_of i)) (λ t v. v) kept n s (resume_valid i s c)
          (λ j jn. call_going (machine i) budget s c j (omega arith)) in
          let (high, goes) = call_going (machine i) budget s c n l in
          rw (next n s) (above_kept (system_of i) t v (search_going (system_of i) t v.ordered high goes) e (rw (next n s) at h))
      | inr (r, values, c) ↦ absurd (omega (arith, (call_refused (machine i) s budget r values c).1))
    ]
  where
    kept : (t : State) → Valid (system_of i) t → Goes (machine i) t → Valid (system_of i) (step (system_of i) t)
    kept t v (high, f) = step_valid (system_of i) t v high (search_going (system_of i) t v.ordered high f)

    next : (n : ℕ) (s : State) → after (n + 1) (machine i) s ≡ step (system_of i) (after n (machine i) s)
    next = after_next (machine i) (λ t. refl)
