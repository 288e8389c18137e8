-- Theorems about what specs/Frames.antt defines. Assumes nothing.
use Rattle.std.proofs.Common.{◌∙◌, inl, mul-le-mul_right, arith}
use Rattle.std.specs.Prelude.{◌≡◌, Bool, false, true, List}
use Rattle.std.proofs.Math.Path.{ap, refl}
use Prim.Native.Nat.{◌*◌, ◌+◌, ◌≤◌, suc, zero, ℕ}
use Rattle.std.proofs.Math.ListN.{get_or}
use Rattle.definitions.specs.Calls.{changed, machine, machine_from, resume, resume_from, settle_from, step_from}
use Rattle.definitions.specs.Input.{Input, above_system, map_of, system_of}
use Rattle.definitions.specs.Machine.{after}
use Rattle.definitions.specs.Step.{enlist_in, grown, level, listed, pick, row_of, step, to_second, top, width}
use Rattle.definitions.specs.System.{System, solves}
use Rattle.definitions.specs.Tables.{RunKind, State, at, by_walk, capped_run, desk_by_desk, lower_above, lower_plain, lowered, plain_part, plain_run, whole_of}
use Rattle.laws.specs.LowerLaws.{Aside}
use Rattle.laws.proofs.LowerLaws.{step_aside, step_kept}
use Rattle.laws.proofs.StepLaws.{children_keep}
use Rattle.laws.proofs.TableLaws.{write_outside}
use Rattle.theorems.specs.Maps.{Map, by_itself}
use Rattle.theorems.proofs.LowerFirst.{next_from}
use Rattle.theorems.specs.WholeSteps.{call_keeps}
use Rattle.theorems.proofs.WholeSteps.{after_next}
use Rattle.theorems.specs.Frames.{RecordKept, RowsBelow, RowsStay, i}

rows_same : (w : ℕ) (s : State) → RowsStay w s s
rows_same w s = record { found = omega arith; rows = λ e l. refl; found2 = omega arith; rows₂ = λ e l. refl }

rows_more : {w : ℕ} {s t u : State} → RowsStay w s t → RowsStay w t u → RowsStay w s u
rows_more {w} a b =
    record {
      found = omega (arith, a.found, b.found);
      rows = λ e l. b.rows e (omega (arith, mul-le-mul_right w a.found)) ∙ a.rows e l;
      found2 = omega (arith, a.found2, b.found2);
      rows₂ = λ e l. b.rows₂ e (omega (arith, mul-le-mul_right w a.found2)) ∙ a.rows₂ e l;
    }

step_rows : (m : System) (s : State) → RowsStay (width m) s (step m s)
unfolding step listed grown
step_rows m s = go (solves m (top m s))
  where
    enlisted : (b : Bool) (w : ℕ) (y : ℕ → ℕ) (d : ℕ) → RowsStay w s (enlist_in b w s y d)
    enlisted false w y d =
        record {
          found = omega arith;
          rows = λ e l. write_outside y s.list (s.run.found * w) w e (inl l);
          found2 = omega arith;
          rows₂ = λ e l. refl;
        }
    enlisted true w y d =
        record {
          found = omega arith;
          rows = λ e l. refl;
          found2 = omega arith;
          rows₂ = λ e l. write_outside y s.second (s.run.found2 * w) w e (inl l);
        }

    go : (b : Bool) → RowsStay (width m) s (pick b (listed m s) (grown m s))
    go true = enlisted (to_second m.kind (top m s)) (width m) (row_of m.kind (top m s)) _
    go false = record { found = omega arith; rows = λ e l. refl; found2 = omega arith; rows₂ = λ e l. refl }

-- a continuing call, plain or capped
pub rows_stay : (budget : ℕ) (i : Input) (s : State) → RowsStay (width (system_of i)) s (resume budget i s).state
rows_stay budget i s =
    call_keeps (machine i) (RowsStay (width (system_of i)) s) (λ t r. r) (λ t r g. rows_more r (step_rows (system_of i) t)) budget s
    (rows_same (width (system_of i)) s)

-- one step more
next : (i : Input) (n : ℕ) (s : State) → after (n + 1) (machine i) s ≡ step (system_of i) (after n (machine i) s)
next i = after_next (machine i) (λ t. refl)

-- and each of its steps
pub rows_each : (i : Input) (n : ℕ) (s : State) → RowsStay (width (system_of i)) (after n (machine i) s) (after (n + 1) (machine i) s)
rows_each i n s = rw (next i n s) (step_rows (system_of i) (after n (machine i) s))

pub record_kept : (budget : ℕ) (i : Input) (s : State) → RecordKept s (resume budget i s).state
record_kept budget i s =
    call_keeps (machine i) (RecordKept s) (λ t r. r)
    (λ t r g. let k = step_kept (system_of i) t in record { kind = k.kind ∙ r.kind; steps2 = k.before ∙ r.steps2 }) budget s
    (record { kind = refl; steps2 = refl })

-- and a plain one: the second list, and its count
pub aside_kept : (budget : ℕ) (m : Map) (s : State) → Aside s (resume budget (by_itself m) s).state
aside_kept budget m s =
    call_keeps (machine (by_itself m)) (Aside s) (λ t r. r)
    (λ t r g. let a = step_aside (map_of (by_itself m)) (λ x. refl) t in record { second = a.second ∙ r.second; found2 = a.found2 ∙ r.found2 }) budget s
    (record { second = refl; found2 = refl })

step_below : (m : System) (s : State) → RowsBelow m.q (level s) s (step m s)
unfolding step listed grown
step_below m s l j h jq = go (solves m (top m s))
  where
    enlisted : (b : Bool) (w : ℕ) (y : ℕ → ℕ) (d : ℕ) → at (enlist_in b w s y d).stack (m.q + 1) l j ≡ at s.stack (m.q + 1) l j
    enlisted false w y d = refl
    enlisted true w y d = refl

    go : (b : Bool) → at (pick b (listed m s) (grown m s)).stack (m.q + 1) l j ≡ at s.stack (m.q + 1) l j
    go true = enlisted (to_second m.kind (top m s)) (width m) _ _
    go false = children_keep m s m.q l j h jq

-- the height after a step is that level or more
step_high : (m : System) (s : State) → level s ≤ (step m s).run.height
unfolding step listed grown
step_high m s = go (solves m (top m s))
  where
    enlisted : (b : Bool) (w : ℕ) (y : ℕ → ℕ) (d : ℕ) → level s ≤ (enlist_in b w s y d).run.height
    enlisted false w y d = omega arith
    enlisted true w y d = omega arith

    go : (b : Bool) → level s ≤ (pick b (listed m s) (grown m s)).run.height
    go true = enlisted (to_second m.kind (top m s)) (width m) _ _
    go false = omega arith

-- of each step of a continuing call
pub rows_below : (i : Input) (n : ℕ) (s : State) → let t = after n (machine i) s in RowsBelow (system_of i).q (level t) t (after (n + 1) (machine i) s)
rows_below i n s = rw (next i n s) (step_below (system_of i) (after n (machine i) s))

-- ---- runs from a lower bound

module _ (lower : List ℕ) (m : Map) where
  settled_rows : (t : State) → RowsStay (i lower m).q t (settle_from lower (i lower m) t)
  unfolding settle_from lowered
  settled_rows t = go t.run.kind t.run.height
    where
      same : {u : State} → u.list ≡ t.list → u.second ≡ t.second → u.run.found ≡ t.run.found → u.run.found2 ≡ t.run.found2 → RowsStay (i lower m).q t u
      same a b c d =
          record {
            found = omega (arith, c);
            rows = λ e l. ap (λ x. get_or x e 0) a;
            found2 = omega (arith, d);
            rows₂ = λ e l. ap (λ x. get_or x e 0) b;
          }

      go : (r : RunKind) (h : ℕ) → RowsStay (i lower m).q t (changed r h lower (i lower m) t)
      go plain_run h = rows_same (i lower m).q t
      go capped_run h = rows_same (i lower m).q t
      go lower_plain zero = same refl refl refl refl
      go lower_plain (suc h) = rows_same (i lower m).q t
      go lower_above h = rows_same (i lower m).q t
      go desk_by_desk h = rows_same (i lower m).q t

  stepped_rows : (t : State) → RowsStay (i lower m).q t (step_from lower (i lower m) t)
  unfolding step_from
  stepped_rows t = go t.run.kind
    where
      above : RowsStay (i lower m).q t (step (above_system lower (i lower m)) t)
      above = step_rows (above_system lower (i lower m)) t

      go : (r : RunKind) → RowsStay (i lower m).q t
          (by_walk r (whole_of t.run.deepest (step (map_of (i lower m)) (plain_part t))) (step (above_system lower (i lower m)) t))
      go plain_run = above
      go capped_run = above
      go lower_plain =
          let r = step_rows (map_of (i lower m)) (plain_part t) in record { found = r.found2; rows = r.rows₂; found2 = r.found; rows₂ = r.rows }
      go lower_above = above
      go desk_by_desk = above

  pub rows_stay_from : (budget : ℕ) (s : State) → RowsStay (i lower m).q s (resume_from budget lower (i lower m) s).state
  rows_stay_from budget s =
      call_keeps (machine_from lower (i lower m)) (RowsStay (i lower m).q s) (λ t r. rows_more r (settled_rows t)) (λ t r g. rows_more r (stepped_rows t))
      budget s
      (rows_same (i lower m).q s)

  pub rows_each_from : (n : ℕ) (s : State) → RowsStay (i lower m).q (after n (machine_from lower (i lower m)) s)
      (after (n + 1) (machine_from lower (i lower m)) s)
  rows_each_from n s =
      let t : State = after n (machine_from lower (i lower m)) s in
      rw (next_from lower m n s) (rows_more (stepped_rows t) (settled_rows (step_from lower (i lower m) t)))

  -- the change of walk is made at height 0, where there is no row below
  settled_below : (h : ℕ) (t : State) → h ≤ t.run.height → RowsBelow (i lower m).q h t (settle_from lower (i lower m) t)
  unfolding settle_from lowered
  settled_below h t low l j lh jq = go t.run.kind t.run.height refl
    where
      go : (r : RunKind) (k : ℕ) → t.run.height ≡ k → at (changed r k lower (i lower m) t).stack ((i lower m).q + 1) l j ≡ at t.stack ((i lower m).q + 1) l j
      go plain_run k e = refl
      go capped_run k e = refl
      go lower_plain zero e = absurd (omega arith)
      go lower_plain (suc k) e = refl
      go lower_above k e = refl
      go desk_by_desk k e = refl

  stepped_below : (t : State) → RowsBelow (i lower m).q (level t) t (step_from lower (i lower m) t) × (level t ≤ (step_from lower (i lower m) t).run.height)
  unfolding step_from
  stepped_below t = go t.run.kind
    where
      above : RowsBelow (i lower m).q (level t) t (step (above_system lower (i lower m)) t) × (level t ≤ (step (above_system lower (i lower m)) t).run.height)
      above = (step_below (above_system lower (i lower m)) t, step_high (above_system lower (i lower m)) t)

      go : (r : RunKind) → let u = by_walk r (whole_of t.run.deepest (step (map_of (i lower m)) (plain_part t))) (step (above_system lower (i lower m)) t) in
          RowsBelow (i lower m).q (level t) t u × (level t ≤ u.run.height)
      go plain_run = above
      go capped_run = above
      go lower_plain = (step_below (map_of (i lower m)) (plain_part t), step_high (map_of (i lower m)) (plain_part t))
      go lower_above = above
      go desk_by_desk = above

  pub rows_below_from : (n : ℕ) (s : State) → let t = after n (machine_from lower (i lower m)) s in
      RowsBelow (i lower m).q (level t) t (after (n + 1) (machine_from lower (i lower m)) s)
  rows_below_from n s =
      let t : State = after n (machine_from lower (i lower m)) s in
      let (b, h) = stepped_below t in
      rw (next_from lower m n s) (λ l j lh jq. settled_below (level t) (step_from lower (i lower m) t) h l j lh jq ∙ b l j lh jq)
