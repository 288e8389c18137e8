-- Theorems about what specs/Office.antt defines. Assumes nothing.
use Rattle.std.specs.Prelude.{◌≡◌, ◌⊎◌, List, [], ℤ}
use Rattle.std.proofs.Math.Path.{refl, sym}
use Rattle.std.proofs.Common.{◌∙◌, ap, inl, inr, arith}
use Prim.Native.Nat.{ℕ, zero, suc, ◌-◌, ◌≤◌, ◌<◌}
use Rattle.std.proofs.Math.Decide.{ℕ_discrete}
use Rattle.definitions.specs.Answers.{Check, complete, go, paused, refuse, refused, started}
use Rattle.definitions.specs.Calls.{changed, machine, machine_from, search_from, settle_from, start, start_from, step_from}
use Rattle.definitions.specs.Input.{above_system, map_of, system_of}
use Rattle.definitions.specs.Machine.{Machine, Outcome, checked, walk, walk_steps}
use Rattle.definitions.specs.Refusals.{lower_checks, resume_checks, resume_from_checks, search_checks, start_checks}
use Rattle.definitions.specs.Step.{step}
use Rattle.definitions.specs.System.{System, most_component}
use Rattle.definitions.specs.Tables.{RunKind, State, by_walk, capped_run, desk_by_desk, lower_above, lower_plain, lower_start, plain_part, plain_run}
use Rattle.definitions.specs.Tables.{units_start, whole_of}
use Rattle.laws.proofs.CheckLaws.{check_cases, refuse_not_go}
use Rattle.laws.proofs.LimitLaws.{step_limit_lem, with_limit}
use Rattle.laws.specs.LowerLaws.{InOrderBy, ValidFrom}
use Rattle.laws.proofs.LowerLaws.{resume_from_renders, resume_from_valid, search_going_from, settled_valid, step_from_valid}
use Rattle.laws.proofs.LowerLaws.{valid_resume_from}
use Rattle.laws.proofs.MachineLaws.{call_walks, walk_done, walk_more, walk_paused, walk_refused}
use Rattle.laws.specs.RefusalLaws.{Handed, InOrder, Shaped, Valid}
use Rattle.laws.proofs.RefusalLaws.{lower_renders, resume_handed, resume_renders, resume_valid}
use Rattle.laws.proofs.RefusalLaws.{search_going, search_renders, start_renders, valid_resume}
use Rattle.laws.proofs.ValidLaws.{step_valid}
use Rattle.theorems.specs.CallAnswers.{started_goes}
use Rattle.theorems.specs.WholeSteps.{Goes}
use Rattle.seat_spec.specs.Training.{seat_lower_checks, seat_machine, seat_machine_from, seat_resume_checks, seat_resume_from_checks, seat_search}
use Rattle.seat_spec.specs.Training.{seat_search_from, seat_start, seat_start_checks, seat_start_from}
use Rattle.seat_spec.proofs.TrainingRules.{seat_lower_renders, seat_resume_from_renders, seat_resume_renders, seat_search_renders, seat_start_renders}
use Rattle.seat_spec.specs.Office.{Alike, AsOffice, Follows, i, o}

positive : {n : ℕ} → ¬ (n ≡ 0) → 0 < n
positive {n} h = omega (arith, h)

-- ---- two machines with the same steps, of which one refuses by 24 where the other may go on, from states that have a property which steps keep

module _ (k c : Machine State) (P : State → Type 0)
    (settles : (s : State) → k.settle s ≡ c.settle s) (height : (s : State) → k.height s ≡ c.height s) (steps : (s : State) → k.step s ≡ c.step s)
    (settled : (s : State) → P s → P (k.settle s)) (kept : (s : State) → P s → Goes k s → P (k.step s))
    (agree : (s : State) → P s → 0 < k.height s → (k.refusals s ≡ c.refusals s) ⊎ (k.refusals s ≡ refuse 24 [])) where
  there : (s : State) → c.height (c.settle s) ≡ k.height (k.settle s)
  there s = ap c.height (sym (settles s)) ∙ sym (height (k.settle s))

  -- without a step the other stands where this does
  still : (s : State) → ((walk 0 c s).state ≡ k.settle s) × (walk_steps 0 c s ≡ 0)
  still s =
      elim (ℕ_discrete (c.height (c.settle s)) 0) [
        | yes e ↦ let d = walk_done c s 0 e in (ap (λ o. o.state) d.0 ∙ sym (settles s), d.1)
        | no ne ↦ let d = walk_paused c s (positive ne) in (ap (λ o. o.state) d.0 ∙ sym (settles s), d.1)
      ]

  next : (s : State) → c.step (c.settle s) ≡ k.step (k.settle s)
  next s = ap c.step (sym (settles s)) ∙ sym (steps (k.settle s))

  walk_follows : (n : ℕ) (s : State) → P s → (Follows k c P settles height steps settled kept agree) n s
      × (Alike k c P settles height steps settled kept agree) n s
  walk_follows zero s p =
      elim (ℕ_discrete (k.height (k.settle s)) 0) [
        | yes e ↦
            let d = walk_done k s 0 e in
            let f = walk_done c s 0 (there s ∙ e) in
            let t = still s in
            (rw (d.0, d.1) t, inr (f.0 ∙ ap (λ t. record { answer = complete; state = t }) (sym (settles s)) ∙ sym d.0, f.1 ∙ sym d.1))
        | no ne ↦
            let d = walk_paused k s (positive ne) in
            let f = walk_paused c s (rw (there s) (positive ne)) in
            let t = still s in
            (rw (d.0, d.1) t, inr (f.0 ∙ ap (λ t. record { answer = paused; state = t }) (sym (settles s)) ∙ sym d.0, f.1 ∙ sym d.1))
      ]
  walk_follows (suc n) s p =
      elim (ℕ_discrete (k.height (k.settle s)) 0) [
        | yes e ↦
            let d = walk_done k s (suc n) e in
            let f = walk_done c s (suc n) (there s ∙ e) in
            (rw (d.0, d.1) (still s), inr (f.0 ∙ ap (λ t. record { answer = complete; state = t }) (sym (settles s)) ∙ sym d.0, f.1 ∙ sym d.1))
        | no ne ↦
            let h : 0 < k.height (k.settle s) = positive ne in
            let hc : 0 < c.height (c.settle s) = rw (there s) h in
            elim (check_cases (k.refusals (k.settle s))) [
              | inl e ↦
                  let ec : c.refusals (c.settle s) ≡ go = elim (agree (k.settle s) (settled s p) h) [
                    | inl a ↦ ap c.refusals (sym (settles s)) ∙ sym a ∙ e
                    | inr a ↦ absurd (refuse_not_go {n = 24} {values = []} (cc))
                  ] in
                  let d = walk_more k s n h e in
                  let (i, j) = walk_follows n (k.step (k.settle s)) (kept (k.settle s) (settled s p) (h, e)) in
                  let f = walk_more c s (walk_steps n k (k.step (k.settle s))) hc ec in
                  let g = walk_more c s n hc ec in (
                    rw (d.0, d.1, f.0, f.1, next s) (i.0, ap suc i.1),
                    elim j [
                      | inl a ↦ inl (ap (λ o. o.answer) d.0 ∙ a)
                      | inr (a, b) ↦ inr (
                        g.0 ∙ ap (walk n c) (next s) ∙ a ∙ sym d.0,
                        g.1 ∙ ap (λ t. suc (walk_steps n c t)) (next s) ∙ ap suc b ∙ sym d.1,
                      )
                    ],
                  )
              | inr (r, values, e) ↦
                  let d = walk_refused k s n r values h e in (
                    rw (d.0, d.1) (still s),
                    elim (agree (k.settle s) (settled s p) h) [
                      | inr a ↦ inl (let (x, y) = walk_refused k s n 24 [] h a in ap (λ o. o.answer) x)
                      | inl a ↦
                          let f = walk_refused c s n r values hc (ap c.refusals (sym (settles s)) ∙ sym a ∙ e) in
                          inr (f.0 ∙ ap (λ t. record { answer = refused r values; state = t }) (sym (settles s)) ∙ sym d.0, f.1 ∙ sym d.1)
                    ],
                  )
            ]
      ]

  pub as_office : (n : ℕ) (s : State) → P s → k.before s ≡ go → c.before s ≡ go → AsOffice n k c s
  as_office n s p e f =
      let d = call_walks k s n e in
      let (i, j) = walk_follows n s p in
      let g = call_walks c s (walk_steps n k s) f in
      let w = call_walks c s n f in
      record {
        through = f;
        as_many = rw (d.1, g.1) i.1;
        leaves = rw (d.0, d.1, g.0) i.0;
        same = λ ne. elim j [
          | inl a ↦ absurd (ne (ap (λ o. o.answer) d.0 ∙ a))
          | inr (a, b) ↦ (w.0 ∙ a ∙ sym d.0, w.1 ∙ b ∙ sym d.1)
        ];
      }

-- ---- the office's limit

-- rows within a limit are within a greater one
module _ (m : System) (n : ℕ) (more : m.limit ≤ n) where
  order_limit : (s : State) → InOrder m s → InOrder (with_limit m n) s
  order_limit s o =
      record {
        kind = o.kind;
        height = o.height;
        found = o.found;
        early = o.early;
        shallow = o.shallow;
        found2 = o.found2;
        rows = λ k l. let r = o.rows k l in
            record { small = λ j jq. omega (arith, r.small j jq); fitting = r.fitting; marked = r.marked; is_inside = r.is_inside };
      }

  shaped_limit : n ≤ most_component → (s : State) → Shaped m s → Shaped (with_limit m n) s
  shaped_limit few s g =
      record {
        p_some = g.p_some;
        p_few = g.p_few;
        q_some = g.q_some;
        q_few = g.q_few;
        wide = g.wide;
        coefs = g.coefs;
        stack = g.stack;
        range = g.range;
        limit_some = omega (arith, g.limit_some);
        limit_few = few;
      }

-- from a record and tables in order under the seat's limit no child passes a greater one
search_agree : (m : System) (n : ℕ) → m.limit < n → (s : State) → InOrder m s → 0 < s.run.height
    → (seat_search m s ≡ search_checks (with_limit m n) s) ⊎ (seat_search m s ≡ refuse 24 [])
search_agree m n less s o h =
    elim (check_cases (seat_search m s)) [
      | inl e ↦
          let (late, (full, (large, u))) = (seat_search_renders m s).goes e in
          inl (e ∙ sym ((search_renders (with_limit m n) s).silent (
            late,
            (full, (λ (y, j, l, mj, a). omega (arith, (o.rows _ (top_below s.run.height h)).small j l), tt)),
          )))
      | inr (r, values, e) ↦ elim ((seat_search_renders m s).refuses r values e) [
        | inl d ↦ inl (e ∙ sym ((search_renders (with_limit m n) s).due r values (inl d)))
        | inr (late, inl d) ↦ inl (e ∙ sym ((search_renders (with_limit m n) s).due r values (inr (late, inl d))))
        | inr (late, inr (full, inl (a, v, d))) ↦ inr (cc)
        | inr (late, inr (full, inr (large, u))) ↦ absurd u
      ]
    ]
  where
    top_below : (k : ℕ) → 0 < k → k - 1 < k
    top_below k h = omega arith

-- the search of the core goes on where the seat's does
pub core_search : (m : System) (s : State) → seat_search m s ≡ go → search_checks m s ≡ go
core_search m s e = (search_renders m s).silent ((seat_search_renders m s).goes e)

pub goes_checked : {S : Type 0} (c : Check) (s : S) (work : S → Outcome S) → c ≡ go → checked c s work ≡ work s
unfolding checked
goes_checked c s work e = rw e

module _ (p q : ℕ) (coefs : List ℤ) where
  handed_office : Handed (i p q coefs) → Handed (o p q coefs)
  handed_office h = record { equations = h.equations; unknowns = h.unknowns; numbers = h.numbers; ranges = h.ranges }

  -- ---- plain runs

  pub kept : (s : State) → Valid (system_of (i p q coefs)) s → Goes (seat_machine (i p q coefs)) s
      → Valid (system_of (i p q coefs)) (step (system_of (i p q coefs)) s)
  kept s v (h, e) =
      step_valid (system_of (i p q coefs)) s v h
      (search_going (system_of (i p q coefs)) s v.ordered h (core_search (system_of (i p q coefs)) s e))

  -- what the seat asks of a plain call is asked by the core under its limit
  pub seat_core : (s : State) → seat_resume_checks (i p q coefs) s ≡ go → resume_checks (i p q coefs) s ≡ go
  seat_core s e =
      let (a, (b, (c, (d, (f, (g, (h, u))))))) = (seat_resume_renders (i p q coefs) s).goes e in
      (resume_renders (i p q coefs) s).silent (a, (b, (d, (f, (g, (h, u))))))

  pub call_office : (budget : ℕ) (s : State) → seat_resume_checks (i p q coefs) s ≡ go → AsOffice budget (seat_machine (i p q coefs)) (machine (o p q coefs)) s
  call_office budget s e =
      let g = seat_core s e in
      let v = resume_valid (i p q coefs) s g in
      as_office (seat_machine (i p q coefs)) (machine (o p q coefs)) (Valid (system_of (i p q coefs))) (λ t. refl) (λ t. refl)
      (λ t. step_limit_lem (system_of (o p q coefs)) 20 t) (λ t v. v) kept
      (λ t v h. search_agree (system_of (i p q coefs)) most_component (omega arith) t v.ordered h) budget s v e
      (valid_resume (o p q coefs) s (handed_office (resume_handed (i p q coefs) s g)) (record {
        shaped = shaped_limit (system_of (i p q coefs)) most_component (omega arith) (omega arith) s v.shaped;
        ordered = order_limit (system_of (i p q coefs)) most_component (omega arith) s v.ordered;
      }))

  pub start_office : (s : State) → (seat_start (i p q coefs) s).answer ≡ started → start (o p q coefs) s ≡ seat_start (i p q coefs) s
  unfolding seat_start start units_start
  start_office s e =
      let (g, w) = started_goes (seat_start_checks (i p q coefs) s) s _ e in
      let (a, (b, (c, (d, (f, (h, u)))))) = (seat_start_renders (i p q coefs) s).goes g in
      goes_checked (start_checks (o p q coefs) s) s _ ((start_renders (o p q coefs) s).silent (a, (b, (d, (f, (h, u))))))
      ∙ sym w

  -- ---- runs from a lower bound

  module _ (lower : List ℕ) where
    pub seat_core_from : (s : State) → seat_resume_from_checks lower (i p q coefs) s ≡ go → resume_from_checks lower (i p q coefs) s ≡ go
    seat_core_from s e =
        let (a, (b, (c, (d, (f, (g, (h, (x, (y, u))))))))) = (seat_resume_from_renders (i p q coefs) s lower).goes e in
        (resume_from_renders lower (i p q coefs) s).silent (a, (b, (d, (f, (g, (h, (x, (y, u))))))))

    -- a step of either walk does not depend on the limit
    pub step_from_office : (s : State) → step_from lower (i p q coefs) s ≡ step_from lower (o p q coefs) s
    unfolding step_from
    step_from_office s = by s.run.kind
      where
        plainly : step (map_of (i p q coefs)) (plain_part s) ≡ step (map_of (o p q coefs)) (plain_part s)
        plainly = step_limit_lem (map_of (o p q coefs)) 20 (plain_part s)

        further : step (above_system lower (i p q coefs)) s ≡ step (above_system lower (o p q coefs)) s
        further = step_limit_lem (above_system lower (o p q coefs)) 20 s

        by : (r : RunKind)
            → by_walk r (whole_of s.run.deepest (step (map_of (i p q coefs)) (plain_part s))) (step (above_system lower (i p q coefs)) s)
            ≡ by_walk r (whole_of s.run.deepest (step (map_of (o p q coefs)) (plain_part s))) (step (above_system lower (o p q coefs)) s)
        by plain_run = further
        by capped_run = further
        by lower_plain = ap (whole_of s.run.deepest) plainly
        by lower_above = further
        by desk_by_desk = further

    pub settle_office : (s : State) → settle_from lower (i p q coefs) s ≡ settle_from lower (o p q coefs) s
    unfolding settle_from
    settle_office s = by s.run.kind s.run.height
      where
        by : (r : RunKind) (h : ℕ) → changed r h lower (i p q coefs) s ≡ changed r h lower (o p q coefs) s
        by plain_run h = refl
        by capped_run h = refl
        by lower_plain zero = refl
        by lower_plain (suc h) = refl
        by lower_above h = refl
        by desk_by_desk h = refl

    core_goes : (s : State) → seat_search_from lower (i p q coefs) s ≡ go → search_from lower (i p q coefs) s ≡ go
    unfolding seat_search_from search_from
    core_goes s = by s.run.kind
      where
        by : (r : RunKind) → by_walk r (seat_search (map_of (i p q coefs)) (plain_part s)) (seat_search (above_system lower (i p q coefs)) s) ≡ go
            → by_walk r (search_checks (map_of (i p q coefs)) (plain_part s)) (search_checks (above_system lower (i p q coefs)) s) ≡ go
        by plain_run e = core_search (above_system lower (i p q coefs)) s e
        by capped_run e = core_search (above_system lower (i p q coefs)) s e
        by lower_plain e = core_search (map_of (i p q coefs)) (plain_part s) e
        by lower_above e = core_search (above_system lower (i p q coefs)) s e
        by desk_by_desk e = core_search (above_system lower (i p q coefs)) s e

    kept_from : (s : State) → ValidFrom lower (i p q coefs) s → Goes (seat_machine_from lower (i p q coefs)) s
        → ValidFrom lower (i p q coefs) (step_from lower (i p q coefs) s)
    kept_from s v (h, e) = step_from_valid lower (i p q coefs) s v (search_going_from lower (i p q coefs) s v h (core_goes s e))

    agree_from : (s : State) → ValidFrom lower (i p q coefs) s → 0 < s.run.height
        → (seat_search_from lower (i p q coefs) s ≡ search_from lower (o p q coefs) s) ⊎ (seat_search_from lower (i p q coefs) s ≡ refuse 24 [])
    unfolding seat_search_from search_from
    agree_from s v h = by s.run.kind v.ordered
      where
        by : (r : RunKind) → InOrderBy r lower (i p q coefs) s
            → (by_walk r (seat_search (map_of (i p q coefs)) (plain_part s)) (seat_search (above_system lower (i p q coefs)) s)
            ≡ by_walk r (search_checks (map_of (o p q coefs)) (plain_part s)) (search_checks (above_system lower (o p q coefs)) s))
            ⊎ (by_walk r (seat_search (map_of (i p q coefs)) (plain_part s)) (seat_search (above_system lower (i p q coefs)) s) ≡ refuse 24 [])
        by plain_run x = absurd x
        by capped_run x = absurd x
        by lower_plain (x, y, z) = search_agree (map_of (i p q coefs)) most_component (omega arith) (plain_part s) x h
        by lower_above (x, y) = search_agree (above_system lower (i p q coefs)) most_component (omega arith) s x h
        by desk_by_desk x = absurd x

    order_office : (s : State) (r : RunKind) → InOrderBy r lower (i p q coefs) s → InOrderBy r lower (o p q coefs) s
    order_office s plain_run x = x
    order_office s capped_run x = x
    order_office s lower_plain (x, y, z) = (order_limit (map_of (i p q coefs)) most_component (omega arith) (plain_part s) x, y, z)
    order_office s lower_above (x, y) = (order_limit (above_system lower (i p q coefs)) most_component (omega arith) s x, y)
    order_office s desk_by_desk x = x

    pub call_office_from : (budget : ℕ) (s : State) → seat_resume_from_checks lower (i p q coefs) s ≡ go
        → AsOffice budget (seat_machine_from lower (i p q coefs)) (machine_from lower (o p q coefs)) s
    call_office_from budget s e =
        let (h, v) = resume_from_valid lower (i p q coefs) s refl (seat_core_from s e) in
        as_office (seat_machine_from lower (i p q coefs)) (machine_from lower (o p q coefs)) (ValidFrom lower (i p q coefs)) settle_office (λ t. refl)
        step_from_office
        (λ t v. settled_valid lower (i p q coefs) t v) kept_from agree_from budget s v e
        (valid_resume_from lower (o p q coefs) s refl (handed_office h) (record {
          shaped = shaped_limit (map_of (i p q coefs)) most_component (omega arith) (omega arith) s v.shaped;
          ordered = order_office s s.run.kind v.ordered;
          long = v.long;
          small = λ j jq. omega (arith, v.small j jq);
        }))

    pub start_office_from : (s : State) → (seat_start_from lower (i p q coefs) s).answer ≡ started → start_from lower (o p q coefs) s
        ≡ seat_start_from lower (i p q coefs) s
    unfolding seat_start_from start_from lower_start
    start_office_from s e =
        let (g, w) = started_goes (seat_lower_checks lower (i p q coefs) s) s _ e in
        let (a, (b, (c, (d, (f, (h, (x, (y, u)))))))) = (seat_lower_renders (i p q coefs) s lower).goes g in
        goes_checked (lower_checks lower (o p q coefs) s) s _
        ((lower_renders (o p q coefs) s lower).silent (a, (b, (d, (f, (h, (x, (λ (j, l, z). y (j, l, omega arith), u))))))))
        ∙ sym w
