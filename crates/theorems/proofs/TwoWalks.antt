-- Theorems about what specs/TwoWalks.antt defines. Assumes nothing.
use Rattle.std.proofs.Common.{◌∙◌, inl, inr, arith}
use Rattle.std.proofs.Math.Path.{◌≡◌, ap, refl, sym}
use Rattle.std.specs.Prelude.{◌≢◌, List}
use Prim.Native.Nat.{◌+◌, ◌-◌, ◌<◌, suc, zero, ℕ}
use Rattle.definitions.specs.Answers.{Answer, complete, go, paused, refused, started}
use Rattle.definitions.specs.Calls.{changed, machine, machine_from, machine_of, resume_from, resume_from_steps, resume_steps, settle_from, step_from}
use Rattle.definitions.specs.Input.{above_system, bound_of, map_of}
use Rattle.definitions.specs.Machine.{Outcome, after, walk, walk_steps}
use Rattle.definitions.specs.Refusals.{resume_checks, resume_from_checks}
use Rattle.definitions.specs.Step.{step}
use Rattle.definitions.specs.Tables.{RunKind, State, by_walk, capped_run, desk_by_desk, lower_above, lower_plain, lowered, plain_part, plain_run, whole_of}
use Rattle.laws.proofs.CheckLaws.{check_cases}
use Rattle.laws.specs.LowerLaws.{InOrderBy, ValidFrom}
use Rattle.laws.proofs.LowerLaws.{plain_valid, resume_from_valid, settled_valid, step_aside, step_kept}
use Rattle.laws.proofs.LowerWalk.{above_walks, from_plain, then_above, walk_counts}
use Rattle.laws.proofs.MachineLaws.{call_refused, call_walks}
use Rattle.laws.proofs.RefusalLaws.{valid_resume}
use Rattle.theorems.specs.Maps.{Map}
use Rattle.theorems.proofs.LowerFirst.{counted_from, kept_valid, next_from}
use Rattle.theorems.specs.WholeSteps.{after_keeps, call_going}
use Rattle.theorems.proofs.WholeSteps.{walk_keeps}
use Rattle.theorems.specs.TwoWalks.{Booked, PlainKept, i, plainly}

module _ (lower : List ℕ) (m : Map) where
  -- the change of walk changes no count and no list
  settled_booked : (t u : State) (r : RunKind) → Booked r t u → u.run.kind ≡ r → Booked r t (settle_from lower (i lower m) u)
  unfolding settle_from lowered
  settled_booked t u r b k = go r u.run.kind u.run.height b k
    where
      go : (r k : RunKind) (h : ℕ) → Booked r t u → k ≡ r → Booked r t (changed k h lower (i lower m) u)
      go r plain_run h b e = b
      go r capped_run h b e = b
      go r lower_plain (suc h) b e = b
      go r lower_above h b e = b
      go r desk_by_desk h b e = b
      go plain_run lower_plain zero b e = b
      go capped_run lower_plain zero b e = b
      go lower_plain lower_plain zero b e = b
      go lower_above lower_plain zero b e = absurd (let z : ◌≡◌ {A = ℕ} 0 1 = cc in omega arith)
      go desk_by_desk lower_plain zero b e = b

  module _ (t : State) where
    booked_step : InOrderBy t.run.kind lower (i lower m) t → Booked t.run.kind t (settle_from lower (i lower m) (step_from lower (i lower m) t))
    unfolding step_from
    booked_step = go t.run.kind refl
      where
        go : (r : RunKind) → t.run.kind ≡ r → InOrderBy r lower (i lower m) t
            → Booked r t (settle_from lower (i lower m)
            (by_walk r (whole_of t.run.deepest (step (map_of (i lower m)) (plain_part t))) (step (above_system lower (i lower m)) t)))
        go plain_run e o = absurd o
        go capped_run e o = absurd o
        go desk_by_desk e o = absurd o
        go lower_plain e o =
            let k = step_kept (map_of (i lower m)) (plain_part t) in
            let a = step_aside (map_of (i lower m)) (λ x. refl) (plain_part t) in
            settled_booked t _ lower_plain (k.counted, k.before, a.found2, a.second) refl
        go lower_above e o =
            let k = step_kept (above_system lower (i lower m)) t in
            let a = step_aside (above_system lower (i lower m)) (λ x. refl) t in
            settled_booked t _ lower_above (k.counted, k.before, a.found2, a.second, k.kind ∙ e) (k.kind ∙ e)

  -- ---- the walk above the bound

  above_kept : (n : ℕ) (s : State) → s.run.kind ≡ lower_above → PlainKept s (walk n (machine_from lower (i lower m)) s).state
  above_kept n s e =
      let k = machine_of (resume_from_checks lower (i lower m)) (above_system lower (i lower m)) in
      rw (above_walks (resume_from_checks lower (i lower m)) lower (i lower m) n s e)
      (walk_keeps k (PlainKept s) (λ t p. p) (λ t p g.
      let b = step_kept (above_system lower (i lower m)) t in
      let a = step_aside (above_system lower (i lower m)) (λ x. refl) t in
      record { kind = b.kind ∙ p.kind; steps2 = b.before ∙ p.steps2; found2 = a.found2 ∙ p.found2; second = a.second ∙ p.second })
      n s (record { kind = refl; steps2 = refl; found2 = refl; second = refl }))

  -- a call in that walk keeps the plain walk's, and counts its own steps
  pub above_call : (budget : ℕ) (s : State) → s.run.kind ≡ lower_above → let t = (resume_from budget lower (i lower m) s).state in
      PlainKept s t × (t.run.steps ≡ s.run.steps + resume_from_steps budget lower (i lower m) s)
  above_call budget s e = (kept, omega (arith, counted_from lower m budget s, kept.steps2))
    where
      kept : PlainKept s (resume_from budget lower (i lower m) s).state
      kept =
          elim (check_cases (resume_from_checks lower (i lower m) s)) [
            | inl g ↦ rw (call_walks (machine_from lower (i lower m)) s budget g).0 (above_kept budget s e)
            | inr (r, values, g) ↦ rw (call_refused (machine_from lower (i lower m)) s budget r values g).0
                (record { kind = refl; steps2 = refl; found2 = refl; second = refl })
          ]

  -- ---- the call from the plain walk

  pub booked : (budget : ℕ) (s : State) (n : ℕ) → n < resume_from_steps budget lower (i lower m) s → let t = after n (machine_from lower (i lower m)) s in
      Booked t.run.kind t (after (n + 1) (machine_from lower (i lower m)) s)
  booked budget s n l =
      elim (check_cases (resume_from_checks lower (i lower m) s)) [
        | inl c ↦
            let v = after_keeps (machine_from lower (i lower m)) (ValidFrom lower (i lower m)) (settled_valid lower (i lower m)) (kept_valid lower m) n s
            (resume_from_valid lower (i lower m) s refl c).1 (λ j jn. call_going (machine_from lower (i lower m)) budget s c j (omega arith)) in
            rw (next_from lower m n s) (booked_step (after n (machine_from lower (i lower m)) s) v.ordered)
        | inr (r, values, c) ↦ absurd (omega (arith, (call_refused (machine_from lower (i lower m)) s budget r values c).1))
      ]

  module _ (budget : ℕ) (s : State) (e : s.run.kind ≡ lower_plain) (goes : resume_from_checks lower (i lower m) s ≡ go) where
    plain_goes : resume_checks (i lower m) (plain_part s) ≡ go
    plain_goes = let (h, v) = resume_from_valid lower (i lower m) s refl goes in valid_resume (i lower m) (plain_part s) h (plain_valid lower (i lower m) s e v)

    -- it is the walk
    plain_walks : ((plainly lower m budget s e goes) ≡ walk budget (machine (i lower m)) (plain_part s))
        × (resume_steps budget (i lower m) (plain_part s) ≡ walk_steps budget (machine (i lower m)) (plain_part s))
    plain_walks = call_walks (machine (i lower m)) (plain_part s) budget plain_goes

    joined : resume_from budget lower (i lower m) s
        ≡ then_above (resume_checks (i lower m)) lower (i lower m) (plainly lower m budget s e goes).answer
        (whole_of s.run.deepest (plainly lower m budget s e goes).state) (budget - resume_steps budget (i lower m) (plain_part s))
    joined =
        let walked : Outcome State = walk budget (machine (i lower m)) (plain_part s) in
        (call_walks (machine_from lower (i lower m)) s budget goes).0 ∙ from_plain (resume_checks (i lower m)) lower (i lower m) budget s e
        ∙ sym (ap (λ (x : Outcome State). then_above (resume_checks (i lower m)) lower (i lower m) x.answer (whole_of s.run.deepest x.state)
        (budget - resume_steps budget (i lower m) (plain_part s))) plain_walks.0
        ∙ ap (λ n. then_above (resume_checks (i lower m)) lower (i lower m) walked.answer (whole_of s.run.deepest walked.state) (budget - n)) plain_walks.1)

    -- "If the plain run pauses or is refused, that is the answer."
    pub plain_stops : (plainly lower m budget s e goes).answer ≢ complete
        → resume_from budget lower (i lower m) s ≡ record {
          answer = (plainly lower m budget s e goes).answer;
          state = whole_of s.run.deepest (plainly lower m budget s e goes).state;
        }
    plain_stops n = joined ∙ stops (plainly lower m budget s e goes).answer n _ _
      where
        stops : (a : Answer) → a ≢ complete → (t : State) (left : ℕ) → then_above (resume_checks (i lower m)) lower (i lower m) a t left ≡ record {
          answer = a;
          state = t;
        }
        stops started n t left = refl
        stops complete n t left = absurd (n refl)
        stops paused n t left = refl
        stops (refused r values) n t left = refl

    -- "At its height 0, ahead of the allowance, the floor row is written and no count changed.": the walk above the bound has what is left of the budget
    pub above_follows : (plainly lower m budget s e goes).answer ≡ complete
        → resume_from budget lower (i lower m) s
        ≡ walk (budget - resume_steps budget (i lower m) (plain_part s)) (machine_from lower (i lower m))
        (lowered (bound_of lower) (i lower m).q (whole_of s.run.deepest (plainly lower m budget s e goes).state))
    unfolding lowered
    above_follows a =
        joined ∙ ap (λ x. then_above (resume_checks (i lower m)) lower (i lower m) x (whole_of s.run.deepest (plainly lower m budget s e goes).state)
        (budget - resume_steps budget (i lower m) (plain_part s))) a
        ∙ sym (above_walks (resume_checks (i lower m)) lower (i lower m) (budget - resume_steps budget (i lower m) (plain_part s)) _ refl)

    -- each count by itself: the plain walk's steps
    then_kept : (a : Answer) (t : State) (left : ℕ) → (then_above (resume_checks (i lower m)) lower (i lower m) a t left).state.run.steps2 ≡ t.run.steps2
    unfolding lowered
    then_kept started t left = refl
    then_kept complete t left =
        ap (λ o. o.state.run.steps2) (sym (above_walks (resume_checks (i lower m)) lower (i lower m) left (lowered (bound_of lower) (i lower m).q t) refl))
        ∙ (above_kept left (lowered (bound_of lower) (i lower m).q t) refl).steps2
    then_kept paused t left = refl
    then_kept (refused r values) t left = refl

    pub plain_counted : (resume_from budget lower (i lower m) s).state.run.steps2 ≡ s.run.steps2 + resume_steps budget (i lower m) (plain_part s)
    plain_counted =
        ap (λ o. o.state.run.steps2) joined
        ∙ then_kept (plainly lower m budget s e goes).answer (whole_of s.run.deepest (plainly lower m budget s e goes).state)
        (budget - resume_steps budget (i lower m) (plain_part s))
        ∙ ap (λ o. o.state.run.steps) plain_walks.0 ∙ (walk_counts (resume_checks (i lower m)) (map_of (i lower m)) budget (plain_part s)).0
        ∙ ap (λ n. s.run.steps2 + n) (sym plain_walks.1)

    -- and the other's
    pub above_counted : (resume_from budget lower (i lower m) s).state.run.steps + resume_steps budget (i lower m) (plain_part s)
        ≡ s.run.steps + resume_from_steps budget lower (i lower m) s
    above_counted = omega (arith, counted_from lower m budget s, plain_counted)
