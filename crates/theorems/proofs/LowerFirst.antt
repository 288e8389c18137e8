-- Theorems about what specs/LowerFirst.antt defines. Assumes nothing.
use Rattle.std.proofs.Common.{◌∙◌, ap, subst, sym, inl, inr, arith}
use Rattle.std.specs.Prelude.{◌≡◌}
use Rattle.std.proofs.Math.Path.{refl}
use Rattle.std.proofs.Math.Bool.{true}
use mathlib.Core.List.{List, []}
use Prim.Native.Nat.{◌*◌, ◌+◌, ◌<◌, ◌≤◌, suc, zero, ℕ}
use Rattle.std.proofs.Math.ListN.{get_or}
use Rattle.definitions.specs.Answers.{go, refused}
use Rattle.definitions.specs.Calls.{changed, machine_from, resume_from, resume_from_steps, search_from, settle_from, step_from}
use Rattle.definitions.specs.Input.{above_system, bound_of, map_of}
use Rattle.definitions.specs.Machine.{after, walk}
use Rattle.definitions.specs.Refusals.{resume_from_checks, search_checks}
use Rattle.definitions.specs.Step.{step}
use Rattle.definitions.specs.Tables.{RunKind, State, by_walk, capped_run, desk_by_desk, lower_above, lower_plain, lowered, plain_part, plain_run, whole_of}
use Rattle.laws.specs.CheckLaws.{FirstDue}
use Rattle.laws.proofs.CheckLaws.{check_cases}
use Rattle.laws.specs.LowerLaws.{GoingFrom, InOrderBy, ValidFrom, resume_from_rules, rules_by}
use Rattle.laws.proofs.LowerLaws.{above_valid, plain_valid, resume_from_renders, resume_from_valid}
use Rattle.laws.specs.LowerLaws.{search_from_rules}
use Rattle.laws.proofs.LowerLaws.{search_from_renders, search_going_from, settled_once, settled_valid, step_from_valid, step_kept}
use Rattle.laws.proofs.LowerLaws.{valid_resume_from}
use Rattle.laws.proofs.MachineLaws.{call_refused}
use Rattle.laws.specs.RefusalLaws.{search_rules}
use Rattle.laws.proofs.TableLaws.{row_outside}
use Rattle.laws.proofs.ValidLaws.{shaped_same}
use Rattle.theorems.specs.Maps.{Map}
use Rattle.theorems.specs.CallAnswers.{CallAnswers, Ruled}
use Rattle.theorems.proofs.CallAnswers.{call_answers, goes_on, refused_there}
use Rattle.theorems.proofs.Counts.{step_counts}
use Rattle.theorems.proofs.First.{full_only}
use Rattle.theorems.specs.Run.{SameRows, relisted_valid, relisted_valid₂, same_fits, with_list, with_lists}
use Rattle.theorems.proofs.Untouched.{above_kept}
use Rattle.theorems.specs.WholeSteps.{Goes, Steady, after_keeps, call_going, call_keeps, called}
use Rattle.theorems.proofs.WholeSteps.{after_next, settled_after}
use Rattle.theorems.specs.LowerFirst.{LongerFrom, RoomBy, i, longer_lists, total}

module _ (lower : List ℕ) (m : Map) where
  steady : Steady (machine_from lower (i lower m))
  steady = settled_once lower (i lower m)

  -- ---- answers

  pub ruled_from : Ruled (machine_from lower (i lower m)) (resume_from_rules lower (i lower m)) (search_from_rules lower (i lower m))
  ruled_from = record { before_renders = resume_from_renders lower (i lower m); within_renders = search_from_renders lower (i lower m) }

  pub resume_from_answers : (budget : ℕ) (s : State)
      → CallAnswers (resume_from_rules lower (i lower m) s) (search_from_rules lower (i lower m) (resume_from budget lower (i lower m) s).state) budget
      (resume_from_steps budget lower (i lower m) s)
      (resume_from budget lower (i lower m) s).state.run.height (resume_from budget lower (i lower m) s).answer
  resume_from_answers budget s = call_answers ruled_from budget s

  -- ---- whole steps, and their number

  pub resume_from_after : (n : ℕ) (s : State) → resume_from_checks lower (i lower m) s ≡ go
      → (resume_from n lower (i lower m) s).state ≡ after (resume_from_steps n lower (i lower m) s) (machine_from lower (i lower m)) s
  resume_from_after n s e = (called (machine_from lower (i lower m)) n s e).state

  -- no change of walk is ahead of what a call leaves
  pub left_settled : (n : ℕ) (s : State) → resume_from_checks lower (i lower m) s ≡ go → settle_from lower (i lower m) (resume_from n lower (i lower m) s).state
      ≡ (resume_from n lower (i lower m) s).state
  left_settled n s e =
      let is = resume_from_after n s e in
      ap (settle_from lower (i lower m)) is ∙ settled_after (machine_from lower (i lower m)) steady (resume_from_steps n lower (i lower m) s) s ∙ sym is

  -- one step more
  pub next_from : (n : ℕ) (s : State) → after (n + 1) (machine_from lower (i lower m)) s
      ≡ settle_from lower (i lower m) (step_from lower (i lower m) (after n (machine_from lower (i lower m)) s))
  next_from = after_next (machine_from lower (i lower m)) steady

  pub settled_total : (s : State) → (total lower m) (settle_from lower (i lower m) s) ≡ (total lower m) s
  unfolding settle_from lowered
  settled_total s = go s.run.kind s.run.height
    where
      go : (r : RunKind) (h : ℕ) → (total lower m) (changed r h lower (i lower m) s) ≡ (total lower m) s
      go plain_run h = refl
      go capped_run h = refl
      go lower_plain zero = refl
      go lower_plain (suc h) = refl
      go lower_above h = refl
      go desk_by_desk h = refl

  pub stepped_total : (s : State) → (total lower m) (step_from lower (i lower m) s) ≡ (total lower m) s + 1
  unfolding step_from
  stepped_total s = go s.run.kind
    where
      above_total : (total lower m) (step (above_system lower (i lower m)) s) ≡ (total lower m) s + 1
      above_total = omega (arith, step_counts (above_system lower (i lower m)) s, (step_kept (above_system lower (i lower m)) s).before)

      go : (r : RunKind) → (total lower m)
          (by_walk r (whole_of s.run.deepest (step (map_of (i lower m)) (plain_part s))) (step (above_system lower (i lower m)) s)) ≡ (total lower m) s + 1
      go plain_run = above_total
      go capped_run = above_total
      go lower_plain = omega (arith, step_counts (map_of (i lower m)) (plain_part s), (step_kept (map_of (i lower m)) (plain_part s)).before)
      go lower_above = above_total
      go desk_by_desk = above_total

  pub after_total : (n : ℕ) (s : State) → (total lower m) (after n (machine_from lower (i lower m)) s) ≡ (total lower m) s + n
  unfolding after
  after_total zero s = omega (arith, settled_total s)
  after_total (suc n) s =
      omega (
        arith,
        after_total n (step_from lower (i lower m) (settle_from lower (i lower m) s)),
        stepped_total (settle_from lower (i lower m) s),
        settled_total s,
      )

  pub counted_from : (n : ℕ) (s : State) → (total lower m) (resume_from n lower (i lower m) s).state
      ≡ (total lower m) s + resume_from_steps n lower (i lower m) s
  counted_from n s =
      elim (check_cases (resume_from_checks lower (i lower m) s)) [
        | inl e ↦ ap (total lower m) (resume_from_after n s e) ∙ after_total (resume_from_steps n lower (i lower m) s) s
        | inr (r, values, e) ↦ let d = call_refused (machine_from lower (i lower m)) s n r values e in rw (d.0, d.1) (omega arith)
      ]

  -- ---- what is left is in order

  pub kept_valid : (t : State) → ValidFrom lower (i lower m) t → Goes (machine_from lower (i lower m)) t
      → ValidFrom lower (i lower m) (step_from lower (i lower m) t)
  kept_valid t v (h, f) = step_from_valid lower (i lower m) t v (search_going_from lower (i lower m) t v h f)

  pub left_valid_from : (budget : ℕ) (s : State) → resume_from_checks lower (i lower m) s ≡ go
      → ValidFrom lower (i lower m) (resume_from budget lower (i lower m) s).state
  left_valid_from budget s e =
      call_keeps (machine_from lower (i lower m)) (ValidFrom lower (i lower m)) (settled_valid lower (i lower m)) kept_valid budget s
      (resume_from_valid lower (i lower m) s refl e).1

  -- and is let go on again: "A paused run goes on in a later call."
  pub left_goes_from : (budget : ℕ) (s : State) → resume_from_checks lower (i lower m) s ≡ go
      → resume_from_checks lower (i lower m) (resume_from budget lower (i lower m) s).state ≡ go
  left_goes_from budget s e =
      valid_resume_from lower (i lower m) (resume_from budget lower (i lower m) s).state refl (resume_from_valid lower (i lower m) s refl e).0
      (left_valid_from budget s e)

  -- ---- after 11

  high_stays : (t : State) → 0 < t.run.height → settle_from lower (i lower m) t ≡ t
  unfolding settle_from
  high_stays t l = go t.run.kind t.run.height l
    where
      go : (r : RunKind) (h : ℕ) → 0 < h → changed r h lower (i lower m) t ≡ t
      go plain_run h l = refl
      go capped_run h l = refl
      go lower_plain zero l = absurd (omega arith)
      go lower_plain (suc h) l = refl
      go lower_above h l = refl
      go desk_by_desk h l = refl

  relisted_from : (t : State) (list second : List ℕ) → SameRows (i lower m).q t.run.found t.list list → SameRows (i lower m).q t.run.found2 t.second second
      → ValidFrom lower (i lower m) t → ValidFrom lower (i lower m) (with_lists t list second)
  relisted_from t list second r r₂ v = record { shaped = shaped_same v.shaped refl; ordered = go t.run.kind refl; long = v.long; small = v.small }
    where
      go : (k : RunKind) → t.run.kind ≡ k → InOrderBy k lower (i lower m) (with_lists t list second)
      go plain_run e = absurd (subst (λ k. InOrderBy k lower (i lower m) t) e v.ordered)
      go capped_run e = absurd (subst (λ k. InOrderBy k lower (i lower m) t) e v.ordered)
      go desk_by_desk e = absurd (subst (λ k. InOrderBy k lower (i lower m) t) e v.ordered)
      go lower_plain e =
          let (o, f, l) = subst (λ k. InOrderBy k lower (i lower m) t) e v.ordered in
          let w = relisted_valid (map_of (i lower m)) (plain_part t) second r₂ (plain_valid lower (i lower m) t e v) in
          ((relisted_valid₂ (map_of (i lower m)) (with_list (plain_part t) second) list r w).ordered, same_fits v.shaped.q_some r, l)
      go lower_above e =
          let (o, l) = subst (λ k. InOrderBy k lower (i lower m) t) e v.ordered in
          let w = relisted_valid (above_system lower (i lower m)) t list r (above_valid lower (i lower m) t e v) in
          ((relisted_valid₂ (above_system lower (i lower m)) (with_list t list) second r₂ w).ordered, l)

  goes_by : (t : State) (list second : List ℕ) → RoomBy (i lower m).q t.run.kind (with_lists t list second)
      → FirstDue (search_from_rules lower (i lower m) t) 11 []
      → search_from lower (i lower m) (with_lists t list second) ≡ go
  unfolding search_from
  goes_by t list second roomy due = by t.run.kind roomy due
    where
      by : (k : RunKind) → RoomBy (i lower m).q k (with_lists t list second)
          → FirstDue (rules_by k (search_rules (map_of (i lower m)) (plain_part t)) (search_rules (above_system lower (i lower m)) t)) 11 []
          → by_walk k (search_checks (map_of (i lower m)) (plain_part (with_lists t list second)))
          (search_checks (above_system lower (i lower m)) (with_lists t list second)) ≡ go
      by plain_run r d = absurd r
      by capped_run r d = absurd r
      by lower_plain r d = full_only (map_of (i lower m)) (plain_part t) d second list r
      by lower_above r d = full_only (above_system lower (i lower m)) t d list second r
      by desk_by_desk r d = absurd r

  -- "after 11 a longer list table with the same rows may be given": the call then takes the step that it had no room for
  pub longer_from : (budget : ℕ) (s : State) → resume_from_checks lower (i lower m) s ≡ go → (resume_from budget lower (i lower m) s).answer ≡ refused 11 []
      → (u : State)
      → LongerFrom (i lower m).q (resume_from budget lower (i lower m) s).state u → (more : ℕ)
      → resume_from (suc more) lower (i lower m) u ≡ walk more (machine_from lower (i lower m)) (step_from lower (i lower m) u)
  longer_from budget s e a u (longer_lists list second r r₂ roomy) more =
      let t : State = (resume_from budget lower (i lower m) s).state in
      let (h, f) = refused_there ruled_from budget s 11 [] e a in
      let due = (search_from_renders lower (i lower m) t).refuses 11 [] f in
      let same : settle_from lower (i lower m) (with_lists t list second) ≡ with_lists t list second = high_stays (with_lists t list second) h in
      let v = relisted_from t list second r r₂ (left_valid_from budget s e) in
      goes_on (machine_from lower (i lower m)) (with_lists t list second)
      (valid_resume_from lower (i lower m) (with_lists t list second) refl (resume_from_valid lower (i lower m) s refl e).0 v)
      (rw same (h, goes_by t list second roomy due)) more
      ∙ ap (λ x. walk more (machine_from lower (i lower m)) (step_from lower (i lower m) x)) same

  -- ---- "Table rows above the height keep what they last held."

  -- by a step of the walk under way
  step_above : (t : State) → ValidFrom lower (i lower m) t → GoingFrom lower (i lower m) t → (e : ℕ)
      → (step_from lower (i lower m) t).run.height * ((i lower m).q + 1) ≤ e
      → get_or (step_from lower (i lower m) t).stack e 0 ≡ get_or t.stack e 0
  unfolding step_from
  step_above t v (p, a) e = go t.run.kind refl v.ordered
    where
      go : (r : RunKind) → t.run.kind ≡ r → InOrderBy r lower (i lower m) t → let u =
          by_walk r (whole_of t.run.deepest (step (map_of (i lower m)) (plain_part t))) (step (above_system lower (i lower m)) t) in
          u.run.height * ((i lower m).q + 1) ≤ e → get_or u.stack e 0 ≡ get_or t.stack e 0
      go plain_run k o l = absurd o
      go capped_run k o l = absurd o
      go lower_plain k o l = above_kept (map_of (i lower m)) (plain_part t) (plain_valid lower (i lower m) t k v) (p k) e l
      go lower_above k o l = above_kept (above_system lower (i lower m)) t (above_valid lower (i lower m) t k v) (a k) e l
      go desk_by_desk k o l = absurd o

  -- and by the change of walk, which is made at height 0 and writes the first row
  settle_above : (t : State) (e : ℕ) → (settle_from lower (i lower m) t).run.height * ((i lower m).q + 1) ≤ e
      → (t.run.height * ((i lower m).q + 1) ≤ e) × (get_or (settle_from lower (i lower m) t).stack e 0 ≡ get_or t.stack e 0)
  unfolding settle_from lowered
  settle_above t e = go t.run.kind t.run.height refl
    where
      go : (r : RunKind) (h : ℕ) → t.run.height ≡ h → (changed r h lower (i lower m) t).run.height * ((i lower m).q + 1) ≤ e
          → (t.run.height * ((i lower m).q + 1) ≤ e) × (get_or (changed r h lower (i lower m) t).stack e 0 ≡ get_or t.stack e 0)
      go plain_run h z l = (l, refl)
      go capped_run h z l = (l, refl)
      go lower_plain zero z l = (rw z (omega arith), row_outside true (i lower m).q t.stack 0 (bound_of lower) 0 e (omega arith))
      go lower_plain (suc h) z l = (l, refl)
      go lower_above h z l = (l, refl)
      go desk_by_desk h z l = (l, refl)

  pub steps_above_from : (budget : ℕ) (s : State) (n : ℕ) → n < resume_from_steps budget lower (i lower m) s → (e : ℕ)
      → (after (n + 1) (machine_from lower (i lower m)) s).run.height * ((i lower m).q + 1) ≤ e
      → get_or (after (n + 1) (machine_from lower (i lower m)) s).stack e 0 ≡ get_or (after n (machine_from lower (i lower m)) s).stack e 0
  steps_above_from budget s n l e h =
      elim (check_cases (resume_from_checks lower (i lower m) s)) [
        | inl c ↦
            let t : State = after n (machine_from lower (i lower m)) s in
            let v = after_keeps (machine_from lower (i lower m)) (ValidFrom lower (i lower m)) (settled_valid lower (i lower m)) kept_valid n s
            (resume_from_valid lower (i lower m) s refl c).1
            (λ j jn. call_going (machine_from lower (i lower m)) budget s c j (omega arith)) in
            let (high, goes) = call_going (machine_from lower (i lower m)) budget s c n l in
            let (k, same) = settle_above (step_from lower (i lower m) t) e (rw (next_from n s) at h) in
            rw (next_from n s) (same ∙ step_above t v (search_going_from lower (i lower m) t v high goes) e k)
        | inr (r, values, c) ↦ absurd (omega (arith, (call_refused (machine_from lower (i lower m)) s budget r values c).1))
      ]
